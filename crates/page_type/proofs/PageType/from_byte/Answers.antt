-- `page_type::PageType::from_byte` meets its contract: an arm's letter is its key; in the last arm it is none of them. Assumes nothing.
use Rattle.std.proofs.Common.{rules}
use Rattle.page_type.specs.Types.{letter_of}
use Rattle.page_type.proofs.Letters.{upper_is}
use Rattle.page_type.proofs.PageType.from_byte.Goals as goal

pub returns-in-69 : goal.returns-in-69
unfolding letter_of
returns-in-69 c = rw (← upper_is _ _ c.to_ascii_uppercase.ensures.value, c.in-69.is)

pub returns-in-65 : goal.returns-in-65
unfolding letter_of
returns-in-65 c = rw (← upper_is _ _ c.to_ascii_uppercase.ensures.value, c.in-65.is)

pub returns-in-77 : goal.returns-in-77
unfolding letter_of
returns-in-77 c = rw (← upper_is _ _ c.to_ascii_uppercase.ensures.value, c.in-77.is)

pub returns-in-72 : goal.returns-in-72
unfolding letter_of
returns-in-72 c = rw (← upper_is _ _ c.to_ascii_uppercase.ensures.value, c.in-72.is)

pub returns-in-67 : goal.returns-in-67
unfolding letter_of
returns-in-67 c = rw (← upper_is _ _ c.to_ascii_uppercase.ensures.value, c.in-67.is)

pub returns-in-64 : goal.returns-in-64
unfolding letter_of
returns-in-64 c = rw (← upper_is _ _ c.to_ascii_uppercase.ensures.value, c.in-64.is)

pub returns-in-73 : goal.returns-in-73
unfolding letter_of
returns-in-73 c = rw (← upper_is _ _ c.to_ascii_uppercase.ensures.value, c.in-73.is)

pub returns-in_default : goal.returns-in_default
unfolding letter_of
returns-in_default c = rw (← upper_is _ _ c.to_ascii_uppercase.ensures.value) (search rules)

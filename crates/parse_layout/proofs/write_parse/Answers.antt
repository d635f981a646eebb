-- `write_parse` meets its contract: the parts are put one behind the other, as the small value says them.
use Rattle.std.proofs.Common.{◌≡◌, ◌<◌, arith, rules}
use Rattle.std.specs.Result.{result_unwrap_or}
use Rattle.lists.specs.Bytes.{byte_at}
use Rattle.answers.specs.Settings.{directory}
use Rattle.fields.proofs.Puts.{layout-short}
use Rattle.parse_layout.proofs.Sizes.{parse-size}
use Rattle.parse_layout.proofs.Wholes.{nothing_located, sound-said, parse-written}
use Rattle.parse_layout.proofs.write_parse.Goals as goal

pub returns-then-out-lt-PARSE_SIZE : goal.returns-then-out-lt-PARSE_SIZE
returns-then-out-lt-PARSE_SIZE c =
    layout-short _ (parse-size _) (omega arith)

pub put_directory-at-requires : goal.put_directory-at-requires
put_directory-at-requires c =
    let e : c.unwrap_or-l.result ≡ result_unwrap_or c.locate-located.result nothing_located = search rules in
    rw e (sound-said c.locate-located.result _ c.locate-located.ensures.sound)

pub returns : goal.returns
returns c =
    let a = c.args in
    let small : byte_at a.plain.now 0xFF0 < 256 = omega (arith, c.type_inv.plain 0xFF0) in
    let e : c.unwrap_or-l.result ≡ result_unwrap_or c.locate-located.result nothing_located = search rules in
    parse-written a.options.search_limit a.number a.plain.now (directory a.options) small c.locate-located.result c.locate-located.ensures.located
    _ _ c.err.ensures.value e
    c.put_answer-at.ensures c.put_directory-at.ensures c.put_given.ensures (omega arith)

-- Document 01, "The program": "one frame a line: page number (8 bytes, big-endian), option bits, T, n (a byte each), n anchors, 4,096 stored
-- bytes"; request #109: the frame carries the limit "as two big-endian bytes after T". Assumes nothing.
use Rattle.std.specs.Prelude.{ℕ, ◌+◌, ◌*◌, Bool, ◌&&◌, Option, Some, None, List, eqb, leb, length, take, drop}
use Rattle.lists.specs.Cases.{pick}
use Rattle.lists.specs.Bytes.{byte_at}
use Rattle.lists.specs.Pieces.{over}
use Rattle.digits.specs.Digits.{all_digits, spelled}
use Rattle.numbers.specs.Numbers.{big_endian}
use Rattle.frame.specs.declared.reading.Frame.{Frame}

-- the bytes before the anchors, those of a frame with none and with 255, and the characters of a line that tell whether it is one
abbrev pub head_size : ℕ
head_size = 13

abbrev pub least_frame : ℕ
least_frame = head_size + 4096

abbrev pub frame_most : ℕ
frame_most = least_frame + 255

abbrev pub line_room : ℕ
line_room = frame_most + frame_most + 1

-- n, the thirteenth byte
abbrev pub anchor_count : List ℕ → ℕ
anchor_count line = byte_at (spelled line) 12

-- digits alone, two for each of 13 + n + 4,096 bytes: "anything else is line 11". Any limit makes a frame
unfoldable pub is_frame : List ℕ → Bool
is_frame line = all_digits line && eqb (length line) (2 * (least_frame + anchor_count line))

-- the parts of a frame's bytes
abbrev pub page_number : List ℕ → ℕ
page_number bytes = big_endian (take 8 bytes)

abbrev pub option_bits : List ℕ → ℕ
option_bits bytes = byte_at bytes 8

abbrev pub least_count : List ℕ → ℕ
least_count bytes = byte_at bytes 9

abbrev pub limit_of : List ℕ → ℕ
limit_of bytes = big_endian (drop 10 (take 12 bytes))

abbrev pub anchors_of : ℕ → List ℕ → List ℕ
anchors_of n bytes = take n (drop head_size bytes)

abbrev pub stored_of : ℕ → List ℕ → List ℕ
stored_of n bytes = take 4096 (drop (head_size + n) bytes)

abbrev pub good_of : List ℕ → ℕ → Frame
good_of bytes n =
    record { number = page_number bytes; options = option_bits bytes; t = least_count bytes; limit = limit_of bytes; anchors = n }

unfoldable pub frame_of : List ℕ → Option Frame
frame_of line = pick (is_frame line) (Some (good_of (spelled line) (anchor_count line))) None

-- what `read_frame` answers with a buffer of m bytes: one that the longest frame does not fit takes none
unfoldable pub frame_in : ℕ → List ℕ → Option Frame
frame_in m line = pick (leb frame_most m) (frame_of line) None

-- and what the buffer holds then: a frame's bytes at its front; otherwise what it held
unfoldable pub frame_bytes : List ℕ → List ℕ → List ℕ
frame_bytes line bytes = pick (leb frame_most (length bytes)) (pick (is_frame line) (over bytes 0 (spelled line)) bytes) bytes

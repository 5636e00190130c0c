use Rattle.std.specs.Prelude.{◌≡◌, ◌-◌, ◌+◌, ◌<◌, ℕ, ℤ, min, Some, List, length, take, drop, slice_get, codes, if◌then◌else◌}
use Rattle.std.specs.Ordering.{int_eq}
use Rattle.elltree.specs.Codes.{said_bad_cards, said_bad_key, said_bad_start, said_busy, said_closed, said_forked, said_in_call, said_no, said_no_memory, said_no_room, said_no_tries, said_null, said_open, said_other_value, said_same, said_spent, said_too_many, said_yes}

-- what a code says, as the bytes of a text
abbrev pub text_of : ℤ → List ℕ
text_of code =
    if int_eq code said_no then codes "no" else
    if int_eq code said_yes then codes "yes" else
    if int_eq code said_other_value then codes "the key has another value" else
    if int_eq code said_busy then codes "something was in the way of each try" else
    if int_eq code said_spent then codes "no card is free for the change" else
    if int_eq code said_no_tries then codes "the call allows no try" else
    if int_eq code said_bad_cards then codes "cards are not 1 to 1,000,000" else
    if int_eq code said_bad_key then codes "a key is above 18446744073709551613" else
    if int_eq code said_bad_start then codes "start keys do not ascend strictly, or are more than 1,000,000" else
    if int_eq code said_no_room then codes "no room for all pairs" else
    if int_eq code said_no_memory then codes "out of memory" else
    if int_eq code said_closed then codes "the handle holds nothing" else
    if int_eq code said_open then codes "the handle holds something already" else
    if int_eq code said_null then codes "a pointer is null" else
    if int_eq code said_same then codes "the same handle is given twice" else
    if int_eq code said_in_call then codes "the handle is in another call" else
    if int_eq code said_too_many then codes "the handle can make no more handles" else
    if int_eq code said_forked then codes "the map is of another process, of which this is a forked child" else
    codes "no code of elltree"

-- how many bytes of a text an array has room for, with a 0 behind them
abbrev pub fitting : List ℕ → List ℕ → ℕ
fitting text old = min (length text) (length old - 1)

-- an array begins with a text, as much of it as fits, and a 0 behind it, if there is room for anything; the others are
-- as they were
pub record WritesText (text old new : List ℕ) : Type 0 where
  pub first : take (fitting text old) new ≡ take (fitting text old) text
  pub ended : 0 < length old → slice_get new (fitting text old) ≡ Some 0
  pub others : drop (fitting text old + 1) new ≡ drop (fitting text old + 1) old

use Rattle.std.specs.Prelude.{◌≡◌, ◌⊎◌, ◌==◌, ℕ, ℤ, pos, negsuc, Bool, true, false, Option, None, Some, Result, Ok, Err, List, [], ◌∷◌, if◌then◌else◌}
use Rattle.elltree.specs.declared.refusal.Refusal.{Refusal}
use Rattle.elltree.specs.declared.refusal.Refusal.TheVariants.{NoTries, Busy, Spent, BadCards, BadKey, BadStart, TooManyHandles, NoMemory}

-- what a call answers: yes, no and another value are answers, and all others refusals
abbrev pub said_no : ℤ
said_no = pos 0

abbrev pub said_yes : ℤ
said_yes = pos 1

-- of a compare-exchange or a removal: the key has another value
abbrev pub said_other_value : ℤ
said_other_value = pos 2

-- something was in the way of each try
abbrev pub said_busy : ℤ
said_busy = negsuc 0

-- no card is free for the change
abbrev pub said_spent : ℤ
said_spent = negsuc 1

-- no try is allowed
abbrev pub said_no_tries : ℤ
said_no_tries = negsuc 3

-- the cards are not 1 to 1,000,000
abbrev pub said_bad_cards : ℤ
said_bad_cards = negsuc 4

-- a key is above the greatest
abbrev pub said_bad_key : ℤ
said_bad_key = negsuc 5

-- the start keys do not ascend strictly, or are too many
abbrev pub said_bad_start : ℤ
said_bad_start = negsuc 6

-- an array has no room for all pairs: this comes from the map, and not from an exported function
abbrev pub said_no_room : ℤ
said_no_room = negsuc 7

-- memory was refused
abbrev pub said_no_memory : ℤ
said_no_memory = negsuc 8

-- a slot holds nothing
abbrev pub said_closed : ℤ
said_closed = negsuc 9

-- a slot that is to get a handle holds one
abbrev pub said_open : ℤ
said_open = negsuc 10

-- a pointer is null that must not be: this and the two codes below it come from the header and the bindings, and not
-- from a call
abbrev pub said_null : ℤ
said_null = negsuc 12

-- a handle is given twice
abbrev pub said_same : ℤ
said_same = negsuc 13

-- a handle is in another call
abbrev pub said_in_call : ℤ
said_in_call = negsuc 14

-- a handle makes no more handles
abbrev pub said_too_many : ℤ
said_too_many = negsuc 15

-- a map is of another process, of which this is a forked child: not from an exported function
abbrev pub said_forked : ℤ
said_forked = negsuc 17

-- the code of a refusal
abbrev pub code_of : Refusal → ℤ
code_of NoTries = said_no_tries
code_of Busy = said_busy
code_of Spent = said_spent
code_of BadCards = said_bad_cards
code_of BadKey = said_bad_key
code_of BadStart = said_bad_start
code_of TooManyHandles = said_too_many
code_of NoMemory = said_no_memory

-- the code of whether a key was added, or removed
abbrev pub code_of_whether : Result Bool Refusal → ℤ
code_of_whether (Ok true) = said_yes
code_of_whether (Ok false) = said_no
code_of_whether (Err why) = code_of why

-- the code of what was found
abbrev pub code_of_found : {A : Type 0} → Option A → ℤ
code_of_found (Some there) = said_yes
code_of_found None = said_no

-- the code of the value that a key had
abbrev pub code_of_value : Result (Option ℕ) Refusal → ℤ
code_of_value (Ok there) = code_of_found there
code_of_value (Err why) = code_of why

-- the code of what was found where a value was expected
abbrev pub code_of_expected : ℕ → Result (Option ℕ) Refusal → ℤ
code_of_expected current (Ok (Some there)) = if there == current then said_yes else said_other_value
code_of_expected current (Ok None) = said_no
code_of_expected current (Err why) = code_of why

-- an answer is one of these
abbrev pub IsOneOf : List ℤ → ℤ → Type 0
IsOneOf [] said = ⊥
IsOneOf (code ∷ codes) said = (said ≡ code) ⊎ IsOneOf codes said

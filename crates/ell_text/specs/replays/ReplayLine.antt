use Rattle.std.specs.Prelude.{ℕ, zero, suc, ◌-◌, ◌<◌, ◌≤◌, List, [], ◌∷◌, Option, None, Some, Result, Ok, Err, if◌then◌else◌, codes}
use Rattle.std.specs.List.{slice_split}
use Rattle.std.specs.Str.{bytes_eq}
use Rattle.ell_ops.specs.Meaning.{greatest_key, most_workers}
use Rattle.ell_core.specs.declared.event.Act.{Act}
use Rattle.ell_core.specs.declared.event.Act.TheVariants.{Begin, Upd, Down, Claim, IFlag, DFlag, Again, Leave, Answer, IChild, IUnflag, Mark, DChild, DUnflag, Backtrack}
use Rattle.ell_core.specs.declared.event.Event.{Event}
use Rattle.ell_text.specs.declared.line.OpKind.{OpKind}
use Rattle.ell_text.specs.declared.number.NumberFault.{NumberFault}
use Rattle.ell_text.specs.declared.number.NumberFault.TheVariants.{NotANumber, TooLarge}
use Rattle.ell_text.specs.declared.replay_line.Place.{Place}
use Rattle.ell_text.specs.declared.replay_line.Place.TheVariants as at
use Rattle.ell_text.specs.declared.replay_line.ReplayLineFault.{ReplayLineFault}
use Rattle.ell_text.specs.declared.replay_line.ReplayLineFault.TheVariants.{BadLine, BadNumber, KeyTooLarge}
use Rattle.ell_text.specs.declared.replay_line.Said.{Said}
use Rattle.ell_text.specs.declared.replay_line.Said.TheVariants as says
use Rattle.ell_word.specs.Node.{most_cards}
use Rattle.ell_text.specs.Line.{kind_of, operation_on}
use Rattle.ell_text.specs.Lines.{is_skipped, is_space}
use Rattle.ell_text.specs.Number.{key_in, number_in}

-- the pieces of a line, which is cut at each space
abbrev pub pieces : List ℕ → List (List ℕ)
pieces line = slice_split is_space line

-- the next step, unless there is a fault
infixl 10 ◌>>=◌
abbrev pub ◌>>=◌ : {A B : Type 0} → Result A ReplayLineFault → (A → Result B ReplayLineFault) → Result B ReplayLineFault
Ok x >>= f = f x
Err fault >>= f = Err fault

-- a form that a line may lack
abbrev pub or_bad_line : {A : Type 0} → Option A → Result A ReplayLineFault
or_bad_line (Some form) = Ok form
or_bad_line None = Err BadLine

-- a number in its range
abbrev pub or_bad_number : Result ℕ NumberFault → Result ℕ ReplayLineFault
or_bad_number (Ok number) = Ok number
or_bad_number (Err fault) = Err BadNumber

-- a number whose range begins at 1
abbrev pub not_zero : ℕ → Result ℕ ReplayLineFault
not_zero zero = Err BadNumber
not_zero (suc n) = Ok (suc n)

-- the number of a worker, W
abbrev pub worker_in : List ℕ → Result ℕ ReplayLineFault
worker_in bytes = or_bad_number (number_in (most_workers - 1) bytes)

-- the number of a card, C
abbrev pub card_in : List ℕ → Result ℕ ReplayLineFault
card_in bytes = or_bad_number (number_in most_cards bytes)

-- a number of workers or of cards, N
abbrev pub count_in : ℕ → List ℕ → Result ℕ ReplayLineFault
count_in max bytes = or_bad_number (number_in max bytes) >>= not_zero

-- what a key's digits are: a key that is too large has a fault of its own
abbrev pub or_bad_key : Result ℕ NumberFault → Result ℕ ReplayLineFault
or_bad_key (Ok key) = Ok key
or_bad_key (Err NotANumber) = Err BadNumber
or_bad_key (Err TooLarge) = Err KeyTooLarge

-- a key, K
abbrev pub replay_key_in : List ℕ → Result ℕ ReplayLineFault
replay_key_in bytes = or_bad_key (key_in bytes)

-- the act that a word says alone
abbrev pub act_of : List ℕ → Option Act
act_of word = if bytes_eq word (codes "upd") then Some Upd else
    if bytes_eq word (codes "down") then Some Down else
    if bytes_eq word (codes "claim") then Some Claim else
    if bytes_eq word (codes "iflag") then Some IFlag else
    if bytes_eq word (codes "dflag") then Some DFlag else
    if bytes_eq word (codes "again") then Some Again else
    if bytes_eq word (codes "leave") then Some Leave else
    if bytes_eq word (codes "answer") then Some Answer else None

-- the act that a word names, as a function of its card
abbrev pub card_act_of : List ℕ → Option (ℕ → Act)
card_act_of word = if bytes_eq word (codes "ichild") then Some IChild else
    if bytes_eq word (codes "iunflag") then Some IUnflag else
    if bytes_eq word (codes "mark") then Some Mark else
    if bytes_eq word (codes "dchild") then Some DChild else
    if bytes_eq word (codes "dunflag") then Some DUnflag else
    if bytes_eq word (codes "backtrack") then Some Backtrack else None

-- the act that a word names on a card: a word that names none is the fault even where the card is misspelt
abbrev pub act_on : List ℕ → Result ℕ ReplayLineFault → Result Act ReplayLineFault
act_on word card = do
  act ← or_bad_line (card_act_of word)
  card ← card
  Ok (act card)

-- the kind of operation that the two words of a `begin` name
abbrev pub begun : List ℕ → List ℕ → Option OpKind
begun word name = if bytes_eq word (codes "begin") then kind_of name else None

-- `W act`
abbrev pub plain_event : List ℕ → List ℕ → Result Event ReplayLineFault
plain_event worker word = do
  act ← or_bad_line (act_of word)
  worker ← worker_in worker
  Ok (record { worker = worker; act = act })

-- `W act C`
abbrev pub card_event : List ℕ → List ℕ → List ℕ → Result Event ReplayLineFault
card_event worker word card = do
  act ← act_on word (card_in card)
  worker ← worker_in worker
  Ok (record { worker = worker; act = act })

-- `W begin operation K`: an insert has the value 0
abbrev pub begin_event : List ℕ → List ℕ → List ℕ → List ℕ → Result Event ReplayLineFault
begin_event worker word name key = do
  kind ← or_bad_line (begun word name)
  worker ← worker_in worker
  key ← replay_key_in key
  Ok (record { worker = worker; act = Begin (operation_on kind key 0) })

-- the event that the pieces of a line say
abbrev pub event_of : List (List ℕ) → Result Event ReplayLineFault
event_of (worker ∷ word ∷ []) = plain_event worker word
event_of (worker ∷ word ∷ card ∷ []) = card_event worker word card
event_of (worker ∷ word ∷ name ∷ key ∷ []) = begin_event worker word name key
event_of other = Err BadLine

-- the number after a word, where a line has these two pieces: `workers N` or `cards N`
abbrev pub count_of : List ℕ → ℕ → List (List ℕ) → Result ℕ ReplayLineFault
count_of name max (word ∷ number ∷ []) = if bytes_eq word name then count_in max number else Err BadLine
count_of name max other = Err BadLine

-- a worker and a key of its own: `own W K`
abbrev pub entry_of : List ℕ → List ℕ → Result Said ReplayLineFault
entry_of worker key = do
  worker ← worker_in worker
  key ← replay_key_in key
  Ok (says.Own worker key)

-- an event, as a line says it
abbrev pub said_event : List (List ℕ) → Result Said ReplayLineFault
said_event parts = do
  event ← event_of parts
  Ok (says.Event event)

-- an own line, where the first of three pieces is `own`, or else an event
abbrev pub entry_or_event : List (List ℕ) → Result Said ReplayLineFault
entry_or_event (word ∷ worker ∷ key ∷ []) =
    if bytes_eq word (codes "own") then entry_of worker key else said_event (word ∷ worker ∷ key ∷ [])
entry_or_event other = said_event other

-- what the pieces of a line say at a place
abbrev pub said_at : Place → List (List ℕ) → Result Said ReplayLineFault
said_at at.Workers parts = do
  count ← count_of (codes "workers") most_workers parts
  Ok (says.Workers count)
said_at at.Cards parts = do
  count ← count_of (codes "cards") most_cards parts
  Ok (says.Cards count)
said_at at.Owns parts = entry_or_event parts
said_at at.Events parts = said_event parts

-- what a line says at a place, nothing where it is skipped, or its fault
abbrev pub replay_line_at : Place → List ℕ → Result (Option Said) ReplayLineFault
replay_line_at place line =
    if is_skipped line then Ok None else (said_at place (pieces line) >>= λ said. Ok (Some said))

-- what a line says has its numbers in their ranges, a card's aside
abbrev pub SaidFits : Said → Type 0
SaidFits (says.Workers count) = (1 ≤ count) × (count ≤ most_workers)
SaidFits (says.Cards count) = (1 ≤ count) × (count ≤ most_cards)
SaidFits (says.Own worker key) = (worker < most_workers) × (key ≤ greatest_key)
SaidFits (says.Event event) = event.worker < most_workers

use Rattle.std.proofs.Common.{◌≡◌, ◌⊎◌, inl, inr, ℕ, true, false, List, [], ◌∷◌, Option, None, Some, Result, Ok, Err, refl, sym, ap, ◌∙◌, ⊎_elim, codes}
use Rattle.std.proofs.lemmas.Bool.{cases_Bool, cond-true, cond-false}
use Rattle.std.proofs.lemmas.Slice.Eq.{bytes_eq-Decides}
use Rattle.std.specs.Str.{bytes_eq}
use Rattle.ell_ops.specs.Meaning.{most_workers}
use Rattle.ell_core.specs.declared.event.Act.{Act}
use Rattle.ell_core.specs.declared.event.Event.{Event}
use Rattle.ell_text.specs.declared.replay_line.Place.{Place}
use Rattle.ell_text.specs.declared.replay_line.Place.TheVariants as at
use Rattle.ell_text.specs.declared.replay_line.ReplayLineFault.{ReplayLineFault}
use Rattle.ell_text.specs.declared.replay_line.Said.{Said}
use Rattle.ell_text.specs.declared.replay_line.Said.TheVariants as says
use Rattle.ell_word.specs.Node.{most_cards}
use Rattle.ell_text.specs.Lines.{is_skipped}
use Rattle.ell_text.specs.replays.ReplayLine.{◌>>=◌, act_on, card_in, count_of, entry_of, entry_or_event, event_of, pieces, replay_key_in, replay_line_at, said_at, said_event, worker_in}
use Rattle.ell_text.specs.replays.Script.{entry_said, event_said, is_kept}

-- what a line says that is not skipped
abbrev pub whole : Result Said ReplayLineFault → Result (Option Said) ReplayLineFault
whole r = r >>= λ said. Ok (Some said)

-- a skipped line says nothing
pub says_nothing : (place : Place) (line : List ℕ) → is_skipped line ≡ true → replay_line_at place line ≡ Ok None
says_nothing place line skipped = cond-true _ _ _ skipped

pub says_whole : (place : Place) (line : List ℕ) → is_skipped line ≡ false → replay_line_at place line ≡ whole (said_at place (pieces line))
says_whole place line spoken = cond-false _ _ _ spoken

from_whole : (r : Result Said ReplayLineFault) (said : Said) → whole r ≡ Ok (Some said) → r ≡ Ok said
from_whole (Ok other) said is = cc
from_whole (Err fault) said is = absurd cc

whole_is_some : (r : Result Said ReplayLineFault) → whole r ≡ Ok None → ⊥
whole_is_some (Ok other) is = cc
whole_is_some (Err fault) is = cc

-- a line that is not skipped says something, or has a fault
pub says_something : (place : Place) (line : List ℕ) → is_skipped line ≡ false → replay_line_at place line ≡ Ok None → ⊥
says_something place line spoken none = whole_is_some (said_at place (pieces line)) (sym (says_whole place line spoken) ∙ none)

said_by_line : (place : Place) (line : List ℕ) (said : Said) → is_skipped line ≡ false → replay_line_at place line ≡ Ok (Some said) → said_at place (pieces line) ≡ Ok said
said_by_line place line said spoken is = from_whole _ said (sym (says_whole place line spoken) ∙ is)

-- a line of one form says what this form says
workers_only : (r : Result ℕ ReplayLineFault) (said : Said) → (r >>= λ count. Ok (says.Workers count)) ≡ Ok said → (count : ℕ) × (said ≡ says.Workers count)
workers_only (Ok count) said is = (count, cc)
workers_only (Err fault) said is = absurd cc

cards_only : (r : Result ℕ ReplayLineFault) (said : Said) → (r >>= λ count. Ok (says.Cards count)) ≡ Ok said → (count : ℕ) × (said ≡ says.Cards count)
cards_only (Ok count) said is = (count, cc)
cards_only (Err fault) said is = absurd cc

event_only : (r : Result Event ReplayLineFault) (said : Said) → (r >>= λ event. Ok (says.Event event)) ≡ Ok said → (event : Event) × (said ≡ says.Event event)
event_only (Ok event) said is = (event, cc)
event_only (Err fault) said is = absurd cc

entry_only : (r s : Result ℕ ReplayLineFault) (said : Said) → (r >>= λ worker. s >>= λ key. Ok (says.Own worker key)) ≡ Ok said
    → (worker : ℕ) × (key : ℕ) × (said ≡ says.Own worker key)
entry_only (Ok worker) (Ok key) said is = (worker, key, cc)
entry_only (Ok worker) (Err fault) said is = absurd cc
entry_only (Err fault) s said is = absurd cc

-- the head lines say the two numbers
pub says_workers : (line : List ℕ) (said : Said) → is_skipped line ≡ false → replay_line_at at.Workers line ≡ Ok (Some said) → (count : ℕ) × (said ≡ says.Workers count)
says_workers line said spoken is = workers_only (count_of (codes "workers") most_workers (pieces line)) said (said_by_line at.Workers line said spoken is)

pub says_cards : (line : List ℕ) (said : Said) → is_skipped line ≡ false → replay_line_at at.Cards line ≡ Ok (Some said) → (count : ℕ) × (said ≡ says.Cards count)
says_cards line said spoken is = cards_only (count_of (codes "cards") most_cards (pieces line)) said (said_by_line at.Cards line said spoken is)

-- the parts say no event
abbrev NoEvent : List (List ℕ) → Type 0
NoEvent parts = (said : Said) → said_event parts ≡ Ok said → ⊥

-- `own` is no worker's number
bad_worker : (act : Result Act ReplayLineFault) (said : Said)
    → ((act >>= λ act. worker_in (codes "own") >>= λ worker. Ok (record { worker = worker; act = act })) >>= λ event. Ok (says.Event event)) ≡ Ok said → ⊥
bad_worker (Err fault) said is = cc
bad_worker (Ok act) said is = cc

own_is_no_event : (word worker key : List ℕ) → word ≡ codes "own" → NoEvent (word ∷ worker ∷ key ∷ [])
own_is_no_event word worker key own said is = bad_worker (act_on worker (card_in key)) said (ap (λ name. said_event (name ∷ worker ∷ key ∷ [])) (sym own) ∙ is)

-- behind the heads a line is read alike at both places, or it is an own line and no event
apart : (parts : List (List ℕ)) → (entry_or_event parts ≡ said_event parts)
    ⊎ ((worker : List ℕ) × (key : List ℕ) × (entry_or_event parts ≡ entry_of worker key) × NoEvent parts)
apart [] = inl refl
apart (a ∷ []) = inl refl
apart (a ∷ b ∷ []) = inl refl
apart (word ∷ worker ∷ key ∷ []) = ⊎_elim
    (λ own. inr (worker, key, cond-true _ _ _ own, own_is_no_event word worker key ((bytes_eq-Decides word (codes "own")).0 own)))
    (λ other. inl (cond-false _ _ _ other))
    (cases_Bool (bytes_eq word (codes "own")))
apart (a ∷ b ∷ c ∷ d ∷ more) = inl refl

no_event_in : (r : Result Said ReplayLineFault) → ((said : Said) → r ≡ Ok said → ⊥) → event_said (whole r) ≡ None
no_event_in (Ok said) none = absurd (none said refl)
no_event_in (Err fault) none = refl

no_event_said : (line : List ℕ) → is_skipped line ≡ false → NoEvent (pieces line) → event_said (replay_line_at at.Events line) ≡ None
no_event_said line spoken none = ap event_said (says_whole at.Events line spoken) ∙ no_event_in (said_event (pieces line)) none

-- What a line behind the heads says is kept, and it is an entry or an event wherever it stands.
pub record SaysBehind (line : List ℕ) (said : Said) : Type 0 where
  pub kept : is_kept (Ok (Some said)) ≡ true
  pub entry : entry_said (replay_line_at at.Owns line) ≡ entry_said (Ok (Some said))
  pub event : event_said (replay_line_at at.Events line) ≡ event_said (Ok (Some said))

pub says_behind_owns : (line : List ℕ) (said : Said) → is_skipped line ≡ false → replay_line_at at.Owns line ≡ Ok (Some said) → SaysBehind line said
says_behind_owns line said spoken is =
    let here = said_by_line at.Owns line said spoken is in
    ⊎_elim
    (λ same.
    let event = event_only (event_of (pieces line)) said (sym same ∙ here) in
    record {
      kept = ap (λ s. is_kept (Ok (Some s))) event.1;
      entry = ap entry_said is;
      event = ap event_said (says_whole at.Events line spoken ∙ ap whole (sym same ∙ here));
    })
    (λ own.
    let entry = entry_only (worker_in own.0) (replay_key_in own.1) said (sym own.2 ∙ here) in
    record {
      kept = ap (λ s. is_kept (Ok (Some s))) entry.2;
      entry = ap entry_said is;
      event = no_event_said line spoken own.3 ∙ sym (ap (λ s. event_said (Ok (Some s))) entry.2);
    })
    (apart (pieces line))

pub says_behind_events : (line : List ℕ) (said : Said) → is_skipped line ≡ false → replay_line_at at.Events line ≡ Ok (Some said) → SaysBehind line said
says_behind_events line said spoken is =
    let here = said_by_line at.Events line said spoken is in
    let event = event_only (event_of (pieces line)) said here in
    ⊎_elim
    (λ same. record {
      kept = ap (λ s. is_kept (Ok (Some s))) event.1;
      entry = ap entry_said (says_whole at.Owns line spoken ∙ ap whole (same ∙ here));
      event = ap event_said is;
    })
    (λ own. absurd (own.3 said here))
    (apart (pieces line))

use Rattle.std.proofs.Common.{◌≡◌, ℕ, true, false, List, [], ◌∷◌, ◌++◌, Option, None, Some, Ok, refl, sym, ap, ◌∙◌}
use Rattle.std.proofs.lemmas.List.{append-nil}
use Rattle.std.proofs.lemmas.List.Elements.{filter_map-append}
use Rattle.std.specs.Option.{option_to_list}
use Rattle.ell_core.specs.declared.event.Event.{Event}
use Rattle.ell_text.specs.declared.replay_line.Place.TheVariants as at
use Rattle.ell_text.specs.declared.replay_line.Said.{Said}
use Rattle.ell_text.specs.declared.replay_line.Said.TheVariants as says
use Rattle.ell_text.specs.replays.Draft.{DraftValue, count_in_draft, finished, no_draft, place_in_draft, place_of, with_said}
use Rattle.ell_text.specs.Lines.{is_skipped}
use Rattle.ell_text.specs.replays.ReplayLine.{replay_line_at}
use Rattle.ell_text.specs.replays.Script.{cards_said, entries, entry_said, event_said, events_in, is_kept, kept_count, place_after, place_behind, script_of, workers_said}
use Rattle.ell_text.proofs.lemmas.Operations.{cons_option-nil}
use Rattle.ell_text.proofs.lemmas.Said.{SaysBehind, says_behind_events, says_behind_owns, says_cards, says_workers}

-- the parts of a script that these lines say, the first two of them the heads
abbrev pub draft_of : List (List ℕ) → DraftValue
draft_of [] = no_draft
draft_of (head ∷ []) = record { workers = workers_said (replay_line_at at.Workers head); cards = None; owned = []; events = [] }
draft_of (head ∷ second ∷ more) = record {
  workers = workers_said (replay_line_at at.Workers head);
  cards = cards_said (replay_line_at at.Cards second);
  owned = entries more;
  events = events_in more;
}

-- the first two lines, as far as they are there, say the two numbers
abbrev pub HasHeads : List (List ℕ) → Type 0
HasHeads [] = Unit {0}
HasHeads (head ∷ []) = (count : ℕ) × (workers_said (replay_line_at at.Workers head) ≡ Some count)
HasHeads (head ∷ second ∷ more) = ((count : ℕ) × (workers_said (replay_line_at at.Workers head) ≡ Some count))
    × ((count : ℕ) × (cards_said (replay_line_at at.Cards second) ≡ Some count))

-- the draft's place, its count and its script are those of its lines
pub draft_place : (text : List (List ℕ)) → HasHeads text → place_in_draft (draft_of text) ≡ place_after text
draft_place [] heads = refl
draft_place (head ∷ []) heads = ap (λ workers. place_of workers None []) heads.1
draft_place (head ∷ second ∷ more) heads =
    ap (λ workers. place_of workers (cards_said (replay_line_at at.Cards second)) (events_in more)) heads.0.1
    ∙ ap (λ cards. place_of (Some heads.0.0) cards (events_in more)) heads.1.1

pub draft_count : (text : List (List ℕ)) → count_in_draft (draft_of text) ≡ kept_count text
draft_count [] = refl
draft_count (head ∷ []) = refl
draft_count (head ∷ second ∷ more) = refl

no_cards : (workers : Option ℕ) (events : List Event) → finished (record { workers = workers; cards = None; owned = []; events = [] }) ≡ None
no_cards None events = refl
no_cards (Some workers) events = refl

pub draft_finished : (text : List (List ℕ)) → finished (draft_of text) ≡ script_of text
draft_finished [] = refl
draft_finished (head ∷ []) = no_cards (workers_said (replay_line_at at.Workers head)) []
draft_finished (head ∷ second ∷ more) = refl

-- an entry, or an event, at the end
with_kept : (d : DraftValue) (said : Said) → is_kept (Ok (Some said)) ≡ true
    → record { workers = d.workers; cards = d.cards; owned = d.owned ++ option_to_list (entry_said (Ok (Some said))); events = d.events ++ option_to_list (event_said (Ok (Some said))) } ≡ with_said d said
with_kept d (says.Workers count) kept = absurd cc
with_kept d (says.Cards count) kept = absurd cc
with_kept d (says.Own worker key) kept =
    ap (λ events. record { workers = d.workers; cards = d.cards; owned = d.owned ++ (worker, key) ∷ []; events = events }) (append-nil d.events)
with_kept d (says.Event event) kept =
    ap (λ owned. record { workers = d.workers; cards = d.cards; owned = owned; events = d.events ++ event ∷ [] }) (append-nil d.owned)

entries_push : (more : List (List ℕ)) (line : List ℕ) (o : Option (ℕ × ℕ)) → entry_said (replay_line_at at.Owns line) ≡ o → entries (more ++ line ∷ []) ≡ entries more ++ option_to_list o
entries_push more line o is =
    filter_map-append (λ line. entry_said (replay_line_at at.Owns line)) more (line ∷ [])
    ∙ ap (λ found. entries more ++ found) (cons_option-nil _ ∙ ap option_to_list is)

events_push : (more : List (List ℕ)) (line : List ℕ) (o : Option Event) → event_said (replay_line_at at.Events line) ≡ o → events_in (more ++ line ∷ []) ≡ events_in more ++ option_to_list o
events_push more line o is =
    filter_map-append (λ line. event_said (replay_line_at at.Events line)) more (line ∷ [])
    ∙ ap (λ found. events_in more ++ found) (cons_option-nil _ ∙ ap option_to_list is)

behind : (events : List Event) (line : List ℕ) (said : Said) → is_skipped line ≡ false → replay_line_at (place_behind events) line ≡ Ok (Some said) → SaysBehind line said
behind [] line said spoken is = says_behind_owns line said spoken is
behind (event ∷ events) line said spoken is = says_behind_events line said spoken is

-- The lines, with one that is not skipped at their end, say what the draft has with what this line says.
pub record Drafted (text : List (List ℕ)) (line : List ℕ) (said : Said) : Type 0 where
  pub heads : HasHeads (text ++ line ∷ [])
  pub draft : draft_of (text ++ line ∷ []) ≡ with_said (draft_of text) said

pub drafted : (text : List (List ℕ)) (line : List ℕ) (said : Said) → HasHeads text → is_skipped line ≡ false → replay_line_at (place_after text) line ≡ Ok (Some said) → Drafted text line said
drafted [] line said heads spoken is =
    let count = says_workers line said spoken is in
    let found : workers_said (replay_line_at at.Workers line) ≡ Some count.0 = ap workers_said (is ∙ ap (λ s. Ok (Some s)) count.1) in
    record {
      heads = (count.0, found);
      draft = ap (λ workers. record { workers = workers; cards = None; owned = []; events = [] }) found ∙ ap (with_said no_draft) (sym count.1);
    }
drafted (head ∷ []) line said heads spoken is =
    let count = says_cards line said spoken is in
    let found : cards_said (replay_line_at at.Cards line) ≡ Some count.0 = ap cards_said (is ∙ ap (λ s. Ok (Some s)) count.1) in
    record {
      heads = (heads, (count.0, found));
      draft = ap (λ cards. record { workers = workers_said (replay_line_at at.Workers head); cards = cards; owned = []; events = [] }) found
          ∙ ap (with_said (draft_of (head ∷ []))) (sym count.1);
    }
drafted (head ∷ second ∷ more) line said heads spoken is =
    let says = behind (events_in more) line said spoken is in
    let d = draft_of (head ∷ second ∷ more) in
    record {
      heads = heads;
      draft = ap (λ owned. record { workers = d.workers; cards = d.cards; owned = owned; events = events_in (more ++ line ∷ []) }) (entries_push more line _ says.entry)
          ∙ ap (λ events. record { workers = d.workers; cards = d.cards; owned = d.owned ++ option_to_list (entry_said (Ok (Some said))); events = events }) (events_push more line _ says.event)
          ∙ with_kept d said says.kept;
    }

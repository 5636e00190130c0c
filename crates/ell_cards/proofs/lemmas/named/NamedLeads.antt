-- The turns before a flag: the claim word is read, and the next card is claimed and filled. They lead to a table with a machine, in which no card has
-- won its flag that had not, and the words of all other cards are as they were.
use Rattle.std.proofs.Common.{◌≡◌, ◌≢◌, ℕ, ◌≤◌, ◌==◌, if◌then◌else◌, inl, inr, Bool, true, false, List, [], ◌∷◌, ◌++◌, refl, ap, ◌∙◌, arith, eq-eqb, get_or-set_same, get_or-set_other}
use Rattle.std.proofs.lemmas.List.{append-nil}
use mathlib.Core.Option.{some}
use lib.ListN.{get_elem?}
use Rattle.ell_layout.specs.declared.field.Field.{Field}
use Rattle.ell_layout.specs.Layout.{address, listed}
use Rattle.ell_layout.proofs.lemmas.Listed.{addresses_apart}
use Rattle.ell_core.specs.declared.exchange.Exchange.{Exchange}
use Rattle.ell_core.specs.history.Later.{StagesLater, wins_of}
use Rattle.ell_core.specs.history.Stages.{is_claimed}
use Rattle.ell_core.proofs.lemmas.runs.Chains.{stages_later}
use Rattle.ell_core.proofs.lemmas.stages.Advances.{stages_same}
use Rattle.ell_runs.specs.declared.call.Call.{Call}
use Rattle.ell_runs.specs.declared.call.Call.TheVariants as call
use Rattle.ell_runs.specs.declared.call.NewNode.{NewNode}
use Rattle.ell_runs.specs.declared.view.View.{View}
use Rattle.ell_runs.specs.Calls.{May, after, atomic_of, left_by, word_of}
use Rattle.ell_runs.specs.Changes.{after_claim}
use Rattle.ell_runs.specs.Machines.{HasMachine}
use Rattle.ell_runs.specs.NamedTakings.{MayTakeCard, claimed_and_filled}
use Rattle.ell_runs.specs.Plans.{TablePlan, flat_from}
use Rattle.ell_runs.specs.States.{TableState}
use Rattle.ell_runs.specs.TurnEffects.{turn_wins}
use Rattle.ell_runs.specs.Turns.{Makes, found_by, state_after, view_after}
use Rattle.ell_runs.proofs.lemmas.named.NamedGuards.{claim_may}
use Rattle.ell_runs.proofs.lemmas.runs.TurnsOfRuns.{turn_lawful}
use Rattle.ell_runs.proofs.lemmas.seats.Seats.{set_there}
use Rattle.ell_cards.specs.Refinement.{HasWon, FlagsCard}
use Rattle.ell_cards.proofs.lemmas.refinement.Touched.{no_claim}
use Rattle.ell_cards.proofs.lemmas.refinement.Winning.{won_by_call}

-- Turns led a table to another one with a machine: nothing was won, and the words of all cards but one are as they were.
pub record LeadsOn (plan : TablePlan) (s : TableState) (r : HasMachine plan s) (c : ℕ) (s' : TableState) : Type 0 where
  pub kept : HasMachine plan s'
  pub later : StagesLater r.stages kept.stages
  pub wins : (d : ℕ) → wins_of (kept.stages d) ≡ wins_of (r.stages d)
  pub won : (d : ℕ) → HasWon kept.stages d → HasWon r.stages d
  pub stays : (d : ℕ) (f : Field) → d ≢ c → listed s'.words d f ≡ listed s.words d f

-- a call leads a table with a machine to another one, in which each card has won what the call wins for it
pub record CallLeads (plan : TablePlan) (m : TableState) (k : HasMachine plan m) (id : ℕ) (w : View) (made : Call) : Type 0 where
  pub new : HasMachine plan (state_after m id w made)
  pub later : StagesLater k.stages new.stages
  pub wins : (d : ℕ) → wins_of (new.stages d) ≡ wins_of (k.stages d) ++ turn_wins m (Makes id made) d

-- so does each call
pub call_leads : (plan : TablePlan) (m : TableState) (k : HasMachine plan m) (id : ℕ) (w : View) → get_elem? m.views id ≡ some w → (made : Call) → May plan made w
    → CallLeads plan m k id w made
call_leads plan m k id w here made may =
    let turn = turn_lawful plan m k (Makes id made) (state_after m id w made) (record { view = w; there = here; may = may; gives = refl }) in
    record { new = turn.0; later = turn.1.later; wins = turn.1.wins }

-- a call wins nothing, and touches no word of a card but that one
pub record IsQuietCall (c : ℕ) (s : TableState) (id : ℕ) (made : Call) : Type 0 where
  pub none : (d : ℕ) → ¬ FlagsCard made d
  pub wins : (d : ℕ) → turn_wins s (Makes id made) d ≡ []
  pub apart : (d : ℕ) (f : Field) → d ≢ c → address d f ≢ word_of made

-- a claim that is won or lost wins nothing that counts
nothing : (b : Bool) (none : List Exchange) → (if b then none else none) ≡ none
nothing true none = refl
nothing false none = refl

module _ (plan : TablePlan) (s : TableState) (r : HasMachine plan s) (id c : ℕ) where
  -- such a call leads on
  abbrev pub quiet_leads : (m : TableState) (led : LeadsOn plan s r c m) (w : View) → get_elem? m.views id ≡ some w → (made : Call) → May plan made w
      → IsQuietCall c m id made → CallLeads plan m led.kept id w made → LeadsOn plan s r c (state_after m id w made)
  quiet_leads m led w here made may quiet turn = record {
    kept = turn.new;
    later = stages_later r.stages led.kept.stages turn.new.stages led.later turn.later;
    wins = λ d. turn.wins d ∙ (ap (λ ks. wins_of (led.kept.stages d) ++ ks) (quiet.wins d) ∙ (append-nil (wins_of (led.kept.stages d)) ∙ led.wins d));
    won = λ d won. elim (won_by_call plan m led.kept id w here turn.new.stages turn.later made may turn.wins d won) [
      | inl had ↦ led.won d had
      | inr flags ↦ absurd (quiet.none d flags)
    ];
    stays = λ d f other.
        get_or-set_other m.words (word_of made) (address d f) (left_by (atomic_of made) (found_by m made)) 0 (quiet.apart d f other) ∙ led.stays d f other;
  }

  -- a table leads to itself
  abbrev pub leads_nowhere : LeadsOn plan s r c s
  leads_nowhere = record { kept = r; later = stages_same r.stages; wins = λ d. refl; won = λ d won. won; stays = λ d f other. refl }

  -- the calls before a flag are such calls
  pub next_quiet : (m : TableState) → IsQuietCall c m id call.Next
  next_quiet m = record { none = λ d is. is; wins = λ d. refl; apart = λ d f other. no_claim d f }

  pub claim_quiet : (m : TableState) (node : NewNode) → IsQuietCall c m id (call.Claim c node)
  claim_quiet m node = record {
    none = λ d is. is;
    wins = λ d. nothing (found_by m (call.Claim c node) == c) [];
    apart = λ d f other. no_claim d f;
  }

  pub fill_quiet : (m : TableState) (g : Field) (x : ℕ) → IsQuietCall c m id (call.Fill c g x)
  fill_quiet m g x = record {
    none = λ d is. is;
    wins = λ d. refl;
    apart = λ d f other same. other (addresses_apart d c f g same).0;
  }

module _ (plan : TablePlan) (s : TableState) (r : HasMachine plan s) (id : ℕ) (v : View) (here : get_elem? s.views id ≡ some v) (node : NewNode) where
  -- the next card
  abbrev pub next : ℕ
  next = found_by s call.Next

  -- it was not claimed
  pub next_blank : is_claimed (r.stages next) ≡ false
  next_blank = by (is_claimed (r.stages next)) refl
    where
      by : (b : Bool) → is_claimed (r.stages next) ≡ b → is_claimed (r.stages next) ≡ false
      by true is = (let below = (r.invariant.words.cards next).claimed.0 is in let at = r.next in absurd (omega (arith, below, at)))
      by false is = is

  -- the table once the claim word was read, and once that card was claimed
  abbrev read : TableState
  read = state_after s id v call.Next

  abbrev claimed : TableState
  claimed = state_after read id (after call.Next next v) (call.Claim next node)

  -- and once these words were stored, the last one last
  abbrev pub filled : List (Field × ℕ) → TableState
  filled [] = claimed
  filled (e ∷ es) = state_after (filled es) id (claimed_and_filled next node es v) (call.Fill next e.0 e.1)

  -- the claim word is still that one
  still : found_by read (call.Claim next node) ≡ next
  still = get_or-set_same s.words 0 next 0 (let size = r.size in omega arith)

  -- what the pass knows then
  there_read : get_elem? read.views id ≡ some (after call.Next next v)
  there_read = set_there s.views id (after call.Next next v) v here

  pub there_filled : (es : List (Field × ℕ)) → get_elem? (filled es).views id ≡ some (claimed_and_filled next node es v)
  there_filled [] =
      set_there read.views id (view_after read (after call.Next next v) (call.Claim next node)) (after call.Next next v) there_read
      ∙ ap (λ b. some (after_claim b next node (after call.Next next v))) (eq-eqb (found_by read (call.Claim next node)) next still)
  there_filled (e ∷ es) =
      set_there (filled es).views id (view_after (filled es) (claimed_and_filled next node es v) (call.Fill next e.0 e.1))
      (claimed_and_filled next node es v) (there_filled es)

  module _ (may : MayTakeCard (flat_from plan) v node) (room : next ≤ plan.last_card) where
    -- the claim word is read
    claims : May plan (call.Claim next node) (after call.Next next v)
    claims = (claim_may (flat_from plan) v next node may, room)

    leads_read : LeadsOn plan s r next read
    leads_read =
        quiet_leads plan s r id next s (leads_nowhere plan s r id next) v here call.Next tt (next_quiet plan s r id next s) (call_leads plan s r id v here call.Next tt)

    -- the card is claimed and filled
    pub leads_filled : (es : List (Field × ℕ)) → LeadsOn plan s r next (filled es)
    leads_filled [] =
        quiet_leads plan s r id next read leads_read (after call.Next next v) there_read (call.Claim next node) claims
        (claim_quiet plan s r id next read node) (call_leads plan read leads_read.kept id (after call.Next next v) there_read (call.Claim next node) claims)
    leads_filled (e ∷ es) =
        quiet_leads plan s r id next (filled es) (leads_filled es) (claimed_and_filled next node es v) (there_filled es) (call.Fill next e.0 e.1)
        (record { holds = refl; unflagged = refl }) (fill_quiet plan s r id next (filled es) e.0 e.1)
        (call_leads plan (filled es) (leads_filled es).kept id (claimed_and_filled next node es v) (there_filled es) (call.Fill next e.0 e.1)
        (record { holds = refl; unflagged = refl }))

use Rattle.std.proofs.Common.{◌≡◌, ◌≢◌, ℕ, ◌↔◌, Some, None, inl, inr, sym, ap, ◌∙◌, subst, Option, refl, ◌==◌, if◌then◌else◌, Bool, true, false}
use Rattle.std.proofs.lemmas.Bool.{cases_eq}
use Rattle.ell_ops.specs.declared.op.Op.{Op}
use Rattle.ell_ops.specs.declared.op.Op.TheVariants.{Find, Insert, Delete, Swap}
use Rattle.ell_ops.specs.Meaning.{key_of}
use Rattle.ell_core.specs.declared.event.Stepped.{Stepped}
use Rattle.ell_layout.specs.Words.{put}
use Rattle.ell_core.specs.state.Machine.{Ledger, Machine, Scene, scene}
use Rattle.ell_core.specs.acts.Searching.{settled, ledger_after, Answer}
use Rattle.ell_core.specs.history.Stages.{Stages}
use Rattle.ell_core.specs.history.Invariant.{Invariant}
use Rattle.ell_core.specs.statements.StepLaws.{EventsAreLawful, SplitsAreLawful, JoinsAreLawful}
use Rattle.ell_layout.proofs.lemmas.Writes.{put_same, put_other}
use Rattle.ell_core.proofs.lemmas.outcomes.Decide.{some_not_none}
use Rattle.ell_core.proofs.lemmas.following.AnswerMeaning.{answers_the_map}
use Rattle.ell_core.proofs.lemmas.following.EventLaws.{steps_keys}
use Rattle.ell_core.proofs.lemmas.following.RowLedgers.{LedgerChanges}
use Rattle.ell_core.proofs.lemmas.following.Ledgers.{steps_know, steps_ledgers}
use Rattle.ell_core.proofs.lemmas.keeping.AllEvents.{steps_follow}
use Rattle.ell_core.proofs.lemmas.following.facts.Last.{steps_last}
use Rattle.ell_core.proofs.lemmas.keeping.Seats.{split_keeps, join_keeps}
use Rattle.ell_core.specs.declared.view.Entry.{Entry}
use Rattle.ell_core.specs.declared.view.Entry.TheVariants.{Present, Absent}
use Rattle.ell_ops.specs.declared.reply.Reply.{Reply}
use Rattle.ell_ops.specs.declared.reply.Reply.TheVariants.{Yes, Found}

-- the same keys are owned where an owned key gets an entry
put_owned : (ledger : Ledger) (k : ℕ) (present : Entry) → ledger k ≢ None → (key : ℕ)
    → (put ledger k (Some present) key ≡ None) ↔ (ledger key ≡ None)
put_owned ledger k present owns key = elim (cases_eq key k) [
  | inl e ↦ (
    (λ h. absurd (some_not_none (ap (put ledger k (Some present)) e ∙ put_same ledger k (Some present)) h)),
    (λ h. absurd (owns (ap ledger (sym e) ∙ h))),
  )
  | inr n ↦ (
    (λ h. sym (put_other ledger k (Some present) key n) ∙ h),
    (λ h. put_other ledger k (Some present) key n ∙ h),
  )
]

-- the same keys are owned after an answer
settled_owned : (ledger : Ledger) (k : ℕ) (made : Entry) (entry : Option Entry) → ledger k ≡ entry → (key : ℕ)
    → (settled ledger k made entry key ≡ None) ↔ (ledger key ≡ None)
settled_owned ledger k made None e key = (λ h. h, λ h. h)
settled_owned ledger k made (Some entry) e key = put_owned ledger k made (λ none. some_not_none e none) key

owned_after : (op : Op) (reply : Reply) (ledger : Ledger) → (key : ℕ)
    → (ledger_after op reply ledger key ≡ None) ↔ (ledger key ≡ None)
owned_after (Find k) reply ledger key = (λ h. h, λ h. h)
owned_after (Insert k value) Yes ledger key = settled_owned ledger k (Present value) (ledger k) refl key
owned_after (Insert k value) _ ledger key = (λ h. h, λ h. h)
owned_after (Delete k) Yes ledger key = settled_owned ledger k Absent (ledger k) refl key
owned_after (Delete k) _ ledger key = (λ h. h, λ h. h)
owned_after (Swap k was value) (Found v) ledger key = by (v == was)
  where
    by : (b : Bool) → ((if b then settled ledger k (Present value) (ledger k) else ledger) key ≡ None) ↔ (ledger key ≡ None)
    by true = settled_owned ledger k (Present value) (ledger k) refl key
    by false = (λ h. h, λ h. h)
owned_after (Swap k was value) _ ledger key = (λ h. h, λ h. h)

-- a ledger without the key stays
unowned_stays : (op : Op) (reply : Reply) (ledger : Ledger) → ledger (key_of op) ≡ None → ledger_after op reply ledger ≡ ledger
unowned_stays (Find k) reply ledger none = refl
unowned_stays (Insert k value) Yes ledger none = ap (settled ledger k (Present value)) none
unowned_stays (Insert k value) _ ledger none = refl
unowned_stays (Delete k) Yes ledger none = ap (settled ledger k Absent) none
unowned_stays (Delete k) _ ledger none = refl
unowned_stays (Swap k was value) (Found v) ledger none = by (v == was)
  where
    by : (b : Bool) → (if b then settled ledger k (Present value) (ledger k) else ledger) ≡ ledger
    by true = ap (settled ledger k (Present value)) none
    by false = refl
unowned_stays (Swap k was value) _ ledger none = refl

-- an answer is the map's
answer_ledgers : (m : Machine) (stage : Stages) (i : ℕ) (said : Stepped) (becomes : Scene) → Invariant m stage
    → Answer (scene m i) said becomes → LedgerChanges (scene m i) said becomes
answer_ledgers m stage i said becomes invariant r =
    let meant = answers_the_map m stage i said becomes r.op r.reply invariant r r.busy r.says in
    subst (λ (s : Stepped). LedgerChanges (scene m i) s becomes) (sym r.says) (record {
      op = r.op;
      busy = r.busy;
      may = (invariant.workers.each i).owned r.op r.busy;
      says = λ owns. (meant owns).reply_is;
      map = λ owns. (meant owns).map_is;
      stays = λ none. ap (λ (s : Scene). s.worker.ledger) r.gives ∙ unowned_stays r.op r.reply (m.worker i).ledger none;
      owned = λ key. subst (λ (s : Scene). (s.worker.ledger key ≡ None) ↔ ((m.worker i).ledger key ≡ None)) (sym r.gives)
          (owned_after r.op r.reply (m.worker i).ledger key);
    })

-- every event is lawful
pub events_lawful : EventsAreLawful
events_lawful m stage e said m' invariant h =
    let follows = steps_follow m stage e said m' invariant h in record {
      follows = follows;
      pairs = steps_keys m stage e said m' invariant h follows;
      ledgers = steps_ledgers m e said m' (λ s after. answer_ledgers m stage e.worker s after invariant) h;
      knowledge = steps_know m e said m' h;
      facts = steps_last m stage e said m' invariant h follows;
    }

-- splits are lawful
pub splits_lawful : SplitsAreLawful
splits_lawful m stage i m' invariant h = split_keeps m m' stage i h invariant

-- joins are lawful
pub joins_lawful : JoinsAreLawful
joins_lawful m stage i j m' invariant h = join_keeps m m' stage i j h invariant

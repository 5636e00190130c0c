use Rattle.std.proofs.Common.{◌≡◌, ◌≢◌, ℕ, ◌≤◌, ◌⊎◌, ◌↔◌, true, Some, None, inl, inr, sym, ap, ◌∙◌, subst}
use Rattle.std.proofs.lemmas.Bool.{cases_eq, false≢true}
use Rattle.ell_ops.specs.declared.op.Op.{Op}
use Rattle.ell_ops.specs.Meaning.{greatest_key, key_of}
use Rattle.ell_layout.specs.Words.{Words, put}
use Rattle.ell_core.specs.state.Machine.{Worker, Machine}
use Rattle.ell_core.specs.soundness.Sound.{WorkerOwns, MayChange, IsNotShared, IsOwned, IsInHand}
use Rattle.ell_core.specs.soundness.Holds.{with_made}
use Rattle.ell_core.specs.history.Stages.{Stage, Stages, insert_won, insert_open, delete_won, delete_open, made_by_stage, effective_at}
use Rattle.ell_core.specs.history.Invariant.{LeadsTo, LeadsToValue, Flagged, WorkerIsSound, WorkersAreSound}
use Rattle.ell_core.proofs.lemmas.outcomes.Decide.{cases_option, same_value, some_not_none}
use Rattle.ell_layout.proofs.lemmas.Writes.{put_same, put_other, put_cases}
use Rattle.ell_core.proofs.lemmas.tree.Reached.{leads_by_value}
use Rattle.ell_core.proofs.lemmas.stages.Counts.{counts_same, counts_made}
use Rattle.ell_core.proofs.lemmas.keeping.going_on.Cards.{GoesOn}
use Rattle.ell_core.proofs.lemmas.keeping.going_on.Workers.{worker_on}
use Rattle.ell_core.proofs.lemmas.keeping.going_on.InHand.{won_elsewhere}
use Rattle.ell_core.specs.declared.view.Entry.{Entry}
use Rattle.ell_core.specs.declared.view.Entry.TheVariants.{Present}

-- a child exchange takes card c, whose flag stands in some worker's hand, to a stage that has made its key present with a value, or
-- absent: so the key leads to a leaf of that value or to none, and every other key leads where it led
pub record SettlesKey (m : Machine) (stage : Stages) (words : Words) (c : ℕ) (new : Stage) (key : ℕ) (made : Entry) : Type 0 where
  pub goes : GoesOn m.words words stage (put stage c new)
  pub hand : IsInHand m c
  pub won : (insert_won (stage c) ≡ true) ⊎ (delete_won (stage c) ≡ true)
  pub own : (v : Worker) (op : Op) → Flagged m.words stage v op c → (key_of op ≡ key) × (made_by_stage op new ≡ Some made)
  pub leads : (k value x : ℕ) → k ≢ key → LeadsToValue words k value x ↔ LeadsToValue m.words k value x
  pub led : (value : ℕ) → LeadsToValue words key value 0 ↔ (made ≡ Present value)
  pub inserts : insert_open new ≡ true → insert_open (stage c) ≡ true
  pub deletes : delete_open new ≡ true → delete_open (stage c) ≡ true

-- a worker has the card in hand, flagged, for an operation on its key, and stands nowhere
record HoldsFor (v : Worker) (c key : ℕ) (new : Stage) (made : Entry) : Type 0 where
  op : Op
  busy : v.operation ≡ Some op
  own : key_of op ≡ key
  makes : made_by_stage op new ≡ Some made
  holds : v.card ≡ Some c
  flagged : v.flagged ≡ true
  nowhere : v.search.node ≡ None

module _ (m : Machine) (stage : Stages) (words : Words) (c : ℕ) (new : Stage) (key : ℕ) (made : Entry)
    (old : WorkersAreSound m stage) (h : SettlesKey m stage words c new key made) where
  -- the stages after
  abbrev stages : Stages
  stages = put stage c new

  -- whoever has the card in hand has it for its key
  holds_for : (i : ℕ) → (m.worker i).card ≡ Some c → (m.worker i).flagged ≡ true → HoldsFor (m.worker i) c key new made
  holds_for i holds flagged = elim (cases_option (m.worker i).operation) [
    | inl o ↦ (let g = (old.each i).flagged o.0 c o.1 holds flagged in record {
      op = o.0;
      busy = o.1;
      own = (h.own (m.worker i) o.0 g.0).0;
      makes = (h.own (m.worker i) o.0 g.0).1;
      holds = holds;
      flagged = flagged;
      nowhere = g.1;
    })
    | inr none ↦ absurd (some_not_none holds (ap (λ (v : Worker). v.card) ((old.each i).free none)))
  ]

  -- one worker has it, and may change the key
  holder : HoldsFor (m.worker h.hand.worker) c key new made
  holder = holds_for h.hand.worker h.hand.holds h.hand.flagged

  owner : MayChange (m.worker h.hand.worker) key
  owner = subst (MayChange (m.worker h.hand.worker)) holder.own ((old.each h.hand.worker).owned holder.op holder.busy)

  -- so whoever owns the key has the card in hand
  owner_holds : (i : ℕ) → WorkerOwns (m.worker i) key → HoldsFor (m.worker i) c key new made
  owner_holds i owns = elim owner [
    | inl its ↦ subst (λ n. HoldsFor (m.worker n) c key new made) (sym (old.one_owner i h.hand.worker key owns its)) holder
    | inr shared ↦ absurd (old.apart h.hand.worker i key shared owns)
  ]

  -- and no owner of it stands anywhere with it
  stands_apart : (i : ℕ) (op : Op) (x : ℕ) → (m.worker i).operation ≡ Some op → (m.worker i).search.node ≡ Some x → WorkerOwns (m.worker i) (key_of op) → key_of op ≢ key
  stands_apart i op x busy stands owns same =
      some_not_none stands (owner_holds i (subst (WorkerOwns (m.worker i)) same owns)).nowhere

  -- each worker is sound after
  worker_after : (i : ℕ) → WorkerIsSound words stages (m.worker i)
  worker_after i = let was = old.each i in
      worker_on m.words words stage stages h.goes (m.worker i)
      (λ op x busy stands born owns value. h.leads (key_of op) value x (stands_apart i op x busy stands owns))
      (λ op d busy holds f hand. put_other stage c new d
      (won_elsewhere m.words stage (m.worker i) c was h.won op d busy holds f))
      was

  -- for its owner the key counts as what was made of it
  counts_here : (i : ℕ) → WorkerOwns (m.worker i) key → effective_at stages (m.worker i) key ≡ Some made
  counts_here i owns =
      let g = owner_holds i owns in
      let ledger = (m.worker i).ledger in
      ap (λ f. f key) (counts_made stages (m.worker i) g.op c g.busy g.holds g.flagged)
      ∙ ((λ t. with_made ledger (g.own t) ((ap (made_by_stage g.op) (put_same stage c new) ∙ g.makes) t) key)
      ∙ put_same ledger key (Some made))

  -- every other key counts as before
  counts_elsewhere : (i k : ℕ) → k ≢ key → effective_at stages (m.worker i) k ≡ effective_at stage (m.worker i) k
  counts_elsewhere i k other = counts_same stage stages (m.worker i) k (λ op d busy holds flagged. elim (cases_eq d c) [
    | inl e ↦ inr (λ same. other (same ∙ (h.own (m.worker i) op
        (subst (Flagged m.words stage (m.worker i) op) e ((old.each i).flagged op d busy holds flagged).0)).0))
    | inr n ↦ inl (ap (made_by_stage op) (put_other stage c new d n))
  ])

  -- the keys present are those of the tree, with their values
  present_after : (i k value : ℕ) → WorkerOwns (m.worker i) k → LeadsToValue words k value 0 ↔ (effective_at stages (m.worker i) k ≡ Some (Present value))
  present_after i k value owns = elim (cases_eq k key) [
    | inl e ↦
        let counts = ap (effective_at stages (m.worker i)) e ∙ counts_here i (subst (WorkerOwns (m.worker i)) e owns) in (
          λ l. counts ∙ ap (λ e. Some e) ((h.led value).0 (subst (λ n. LeadsToValue words n value 0) e l)),
          λ s. subst (λ n. LeadsToValue words n value 0) (sym e) ((h.led value).1 (same_value counts s)),
        )
    | inr n ↦
        let was = old.present i k value owns in
        let same = counts_elsewhere i k n in
        (λ l. same ∙ was.0 ((h.leads k value 0 n).0 l), λ s. (h.leads k value 0 n).1 (was.1 (sym same ∙ s)))
  ]

  -- each key of the tree that is not shared has an owner
  owned_after : (k : ℕ) → k ≤ greatest_key → LeadsTo words k 0 → IsNotShared m k → IsOwned (record m { words = words }) k
  owned_after k real l none = elim (cases_eq k key) [
    | inl e ↦ elim owner [
      | inl its ↦ record { worker = h.hand.worker; owns = subst (WorkerOwns (m.worker h.hand.worker)) (sym e) its }
      | inr shared ↦ absurd (false≢true (sym (none h.hand.worker) ∙ (ap (m.worker h.hand.worker).shared e ∙ shared)))
    ]
    | inr n ↦ (let was = old.owned k real ((leads_by_value m.words words k 0 (λ value. h.leads k value 0 n)).0 l) none in record { worker = was.worker; owns = was.owns })
  ]

  -- a card in hand is in hand
  in_hand_after : (d : ℕ) → IsInHand m d → IsInHand (record m { words = words }) d
  in_hand_after d g = record { worker = g.worker; holds = g.holds; flagged = g.flagged }

  -- the workers are sound after
  pub settled_workers : WorkersAreSound (record m { words = words }) stages
  settled_workers = record {
    each = worker_after;
    one_owner = old.one_owner;
    present = present_after;
    apart = old.apart;
    owned = owned_after;
    one_hand = old.one_hand;
    insert_in_hand = λ d. put_cases (λ s. insert_open s ≡ true → IsInHand (record m { words = words }) d) stage c new d
        (λ e g. in_hand_after d (old.insert_in_hand d (ap (λ n. insert_open (stage n)) e ∙ h.inserts g)))
        (λ n g. in_hand_after d (old.insert_in_hand d g));
    delete_in_hand = λ d. put_cases (λ s. delete_open s ≡ true → IsInHand (record m { words = words }) d) stage c new d
        (λ e g. in_hand_after d (old.delete_in_hand d (ap (λ n. delete_open (stage n)) e ∙ h.deletes g)))
        (λ n g. in_hand_after d (old.delete_in_hand d g));
    strangers = old.strangers;
  }

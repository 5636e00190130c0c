use Rattle.std.proofs.Common.{◌≡◌, ℕ, ◌<◌, ◌≤◌, true, Some, None, List, inl, inr, refl, sym, ap, ◌∙◌, subst, arith, ◌⊎◌, ◌≢◌, Bool, false}
use Rattle.std.proofs.lemmas.Bool.{false≢true}
use Rattle.ell_ops.specs.declared.op.Op.{Op}
use Rattle.ell_ops.specs.declared.op.Op.TheVariants.{Find, Insert, Delete, Swap}
use Rattle.ell_ops.specs.Meaning.{key_of, greatest_key}
use Rattle.ell_core.specs.declared.event.Act.TheVariants as act
use Rattle.ell_core.specs.declared.event.Stepped.{Stepped}
use Rattle.ell_core.specs.declared.event.Stepped.TheVariants.{Moved}
use Rattle.ell_layout.specs.declared.field.Field.{Field}
use Rattle.ell_layout.specs.Words.{Words, put, is_flat}
use Rattle.ell_core.specs.state.Machine.{Worker, Machine, Scene, scene, with_scene}
use Rattle.ell_layout.specs.Cards.{claimed, put_filling, value_below, delete_filling}
use Rattle.ell_core.specs.acts.Searching.{claims, ClaimPut, ClaimDelete, MayTake}
use Rattle.ell_core.specs.history.Stages.{Stage, Stages, Unclaimed, IClaimed, DClaimed, insert_open, delete_open, made_by_stage, is_insert, is_delete, is_claimed}
use Rattle.ell_core.specs.history.Invariant.{CardIsSound, Unflagged, WorkerIsSound, Invariant, Flagged, StandIsSound}
use Rattle.ell_core.specs.history.Later.{Follows}
use Rattle.ell_layout.proofs.lemmas.Writes.{put_same, put_cases}
use Rattle.ell_core.proofs.lemmas.keeping.Puts.{put_key, hand_putting}
use Rattle.ell_core.proofs.lemmas.keeping.OneWorker.{Becomes, workers_become}
use Rattle.ell_core.proofs.lemmas.keeping.claim.Filling.{claimed_claims, others_say}
use Rattle.ell_core.proofs.lemmas.keeping.claim.Frames.{IsJustClaimed, just_claimed, Claiming, unclaimed, before, leads_kept, leads_before, claim_stages, claim_wins, claim_words}
use Rattle.ell_core.proofs.lemmas.keeping.claim.Words.{words_kept}
use Rattle.ell_core.proofs.lemmas.keeping.going_on.InHand.{same_place, stands_same, unflagged_claimed}
use Rattle.ell_core.proofs.lemmas.keeping.claim.Taking.{hand_discarded}
use Rattle.ell_core.proofs.lemmas.keeping.claim.Workers.{worker_kept}
use Rattle.ell_core.proofs.lemmas.keeping.claim.InsertCard.{InsertSeen, insert_claimed, insert_in_hand}
use Rattle.ell_core.proofs.lemmas.keeping.claim.DeleteCard.{DeleteSeen, delete_claimed, delete_in_hand}
use Rattle.ell_core.proofs.lemmas.stages.Kinds.{HasKind, kinds_later}
use Rattle.ell_core.proofs.lemmas.stages.LaterKeys.{root_born}
use Rattle.ell_core.proofs.lemmas.stages.Counts.{counts_unmade, counts_same}
use Rattle.ell_core.proofs.lemmas.stages.Order.{insert-claimed, delete-claimed, insert_won-insert, delete_won-delete}
use Rattle.ell_core.proofs.lemmas.outcomes.Decide.{cases_option, some_not_none}
use Rattle.ell_core.proofs.lemmas.keeping.KeepsInvariant.{KeepsInvariant}

-- nothing was made of a key by a card that was not claimed, or just was
made_of_none : (o : Op) → (made_by_stage o Unclaimed ≡ None) × (made_by_stage o IClaimed ≡ None) × (made_by_stage o DClaimed ≡ None)
made_of_none (Find k) = (refl, refl, refl)
made_of_none (Insert k value) = (refl, refl, refl)
made_of_none (Delete k) = (refl, refl, refl)
made_of_none (Swap k was value) = (refl, refl, refl)

-- a worker that may take a card claims the next one for its operation, which fills it as a sound card that it then has in hand
pub record ClaimsCard (m : Machine) (stage : Stages) (i : ℕ) (tag : ℕ) (filling : List (Field × ℕ)) (new : Stage)
    (op : Op) : Type 0 where
  pub there : i < m.count
  pub sound : Invariant m stage
  pub room : m.words.next ≤ m.last_card
  pub fresh : IsJustClaimed new
  pub busy : (m.worker i).operation ≡ Some op
  pub ready : MayTake m.words.flat_from (m.worker i)
  pub own : CardIsSound (claimed m.words tag filling) (put stage m.words.next new) m.words.next
  pub hand : Unflagged (claimed m.words tag filling) (put stage m.words.next new)
      (claims (scene m i) tag filling).worker op m.words.next

-- a card whose flag was won was claimed
flagged_claimed : (w : Words) (stage : Stages) (v : Worker) (op : Op) (c : ℕ) → Flagged w stage v op c → is_claimed (stage c) ≡ true
flagged_claimed w stage v (Find k) c h = absurd h
flagged_claimed w stage v (Insert k value) c h = insert-claimed (stage c) (insert_won-insert (stage c) h.0)
flagged_claimed w stage v (Swap k was value) c h = insert-claimed (stage c) (insert_won-insert (stage c) h.0)
flagged_claimed w stage v (Delete k) c h = delete-claimed (stage c) (delete_won-delete (stage c) h.0)

-- a card in a worker's hand was claimed
in_hand_claimed : (w : Words) (stage : Stages) (v : Worker) (c : ℕ) → WorkerIsSound w stage v → v.card ≡ Some c → is_claimed (stage c) ≡ true
in_hand_claimed w stage v c sound holds = elim (cases_option v.operation) [
  | inl op ↦ by op.0 op.1 v.flagged refl
  | inr none ↦ absurd (some_not_none holds (ap (λ (u : Worker). u.card) (sound.free none)))
]
  where
    by : (op : Op) → v.operation ≡ Some op → (b : Bool) → v.flagged ≡ b → is_claimed (stage c) ≡ true
    by op busy true flagged = flagged_claimed w stage v op c (sound.flagged op c busy holds flagged).0
    by op busy false unflagged = unflagged_claimed w stage v op c (sound.unflagged op c busy holds unflagged)

module _ (m : Machine) (stage : Stages) (i tag : ℕ) (filling : List (Field × ℕ)) (new : Stage) (op : Op)
    (h : ClaimsCard m stage i tag filling new op) where
  -- the words, the stages and the claimer after the claim
  abbrev after : Words
  after = claimed m.words tag filling

  abbrev stages : Stages
  stages = put stage m.words.next new

  abbrev claimer : Worker
  claimer = (claims (scene m i) tag filling).worker

  claiming : Claiming m.words after stage new
  claiming = record { words = h.sound.words; claims = claimed_claims m.words tag filling; fresh = h.fresh }

  claimer_sound : WorkerIsSound after stages claimer
  claimer_sound = let old = h.sound.workers.each i in
      let kept = worker_kept m.words after stage new claiming (m.worker i) old in record {
        facts = kept.facts;
        real = kept.real;
        free = λ e. (let clash : Some op ≡ None = sym h.busy ∙ e in absurd cc);
        owned = kept.owned;
        stands = λ o x busy at. (let stood = kept.stands o x busy at in
            stands_same after stages (m.worker i) claimer (key_of o) x (same_place (m.worker i).search) refl stood.read stood);
        unflagged = λ o c busy holds e. (
            let same_op : Some op ≡ Some o = sym h.busy ∙ busy in
            let this : op ≡ o = cc in
            let here : m.words.next ≡ c = cc in
            subst (λ n. Unflagged after stages claimer o n) here
            (subst (λ p. Unflagged after stages claimer p m.words.next) this h.hand));
        flagged = λ o c busy holds e. absurd (false≢true e);
      }

  -- the claim makes nothing of a key
  made_same : (o : Op) (c : ℕ) → made_by_stage o (stages c) ≡ made_by_stage o (stage c)
  made_same o c = put_cases (λ s. made_by_stage o s ≡ made_by_stage o (stage c)) stage m.words.next new c
      (λ e. let free = ap (made_by_stage o) (ap stage e ∙ unclaimed m.words after stage new claiming) in
      let none = made_of_none o in
      just_claimed (λ s. made_by_stage o s ≡ made_by_stage o (stage c)) new h.fresh (none.1 ∙ (sym none.0 ∙ sym free)) (none.2 ∙ (sym none.0 ∙ sym free)))
      (λ n. refl)

  claimer_becomes : Becomes m stage i after stages claimer
  claimer_becomes = let zero_born = root_born m.words stage h.sound.words in record {
    there = h.there;
    leads = λ k value. (
      leads_before m.words after stage new claiming k value 0 zero_born,
      leads_kept m.words after stage new claiming k value 0 zero_born,
    );
    own = claimer_sound;
    others = λ j n. worker_kept m.words after stage new claiming (m.worker j) (h.sound.workers.each j);
    owns = λ k. (λ o. o, λ o. o);
    shares = refl;
    hands = λ c holds. inr (λ j had. fresh_card c holds j had);
    counts = λ k o. ap (λ f. f k) (counts_unmade stages claimer (λ o c b e f. absurd (false≢true f))
        ∙ sym (counts_unmade stage (m.worker i) (λ o c b e f. absurd (none c e f))));
    counts_others = λ j k n o. counts_same stage stages (m.worker j) k (λ op c busy holds f. inl (made_same op c));
    inserts = λ c e. inr (
      before m.words after stage new claiming insert_open refl refl c e,
      λ had. absurd (none c had.holds had.flagged),
    );
    deletes = λ c e. inr (
      before m.words after stage new claiming delete_open refl refl c e,
      λ had. absurd (none c had.holds had.flagged),
    );
  }
    where
      fresh_card : (c : ℕ) → claimer.card ≡ Some c → (j : ℕ) → (m.worker j).card ≢ Some c
      fresh_card c holds j had =
          let here : m.words.next ≡ c = cc in
          let below = (h.sound.words.cards c).claimed.0 (in_hand_claimed m.words stage (m.worker j) c (h.sound.workers.each j) had) in
          omega arith

      none : (c : ℕ) → (m.worker i).card ≡ Some c → ¬ ((m.worker i).flagged ≡ true)
      none c holds flagged = false≢true (sym (hand_discarded m.words.flat_from (m.worker i) c h.ready holds).1 ∙ flagged)

  -- the claimed card is an insert's or a delete's
  claimed_kind : HasKind stages m.words.next
  claimed_kind = subst (λ s. (is_insert s ≡ true) ⊎ (is_delete s ≡ true)) (sym (put_same stage m.words.next new))
      (just_claimed (λ s. (is_insert s ≡ true) ⊎ (is_delete s ≡ true)) new h.fresh (inl refl) (inr refl))

  -- such a claim keeps the invariant
  pub claim_follows : Follows m stage act.Claim i Moved (with_scene m i (claims (scene m i) tag filling))
  claim_follows = record {
    stages = stages;
    invariant = record {
      words = words_kept m.words after stage new claiming h.own;
      workers = workers_become m stage i after stages claimer claimer_becomes h.sound.workers;
      limit = let room = h.room in omega arith;
      kinds = kinds_later m.words after stage stages (claim_words m.words after stage new claiming) (claim_stages m.words after stage new claiming)
          (inr (refl, claimed_kind)) h.sound.kinds;
    };
    words = claim_words m.words after stage new claiming;
    later = claim_stages m.words after stage new claiming;
    unborn = λ c below out. others_say m.words after m.words.next claiming.claims.others c (λ e. omega arith);
    wins = claim_wins m.words after stage new claiming;
  }

-- a claim for an insert or a swap keeps it
claim_insert : (m : Machine) (stage : Stages) (i : ℕ) (said : Stepped) (becomes : Scene) → i < m.count → Invariant m stage
    → m.words.next ≤ m.last_card
    → ClaimPut (scene m i) said becomes → Follows m stage act.Claim i said (with_scene m i becomes)
claim_insert m stage i said becomes there sound room e =
    let own = sound.workers.each i in
    let key = put_key e.op e.what e.puts in
    let stand = subst (λ k. StandIsSound m.words stage (m.worker i) k e.below) key (own.stands e.op e.below e.busy e.at.stands) in
    let seen : InsertSeen m.words stage (m.worker i) e.what e.below e.node_key e.parent = record {
      words = sound.words;
      stand = stand;
      seen = (stand.parent e.parent e.at.behind).0;
      real = subst (λ k. k ≤ greatest_key) key (own.real (key_of e.op) (own.owned e.op e.busy));
      takes = e.takes;
      fits = e.fits;
      named = e.named;
    } in
    let filling = put_filling (is_flat m.words) m.words.next e.what.key e.what.value e.node_key e.parent.node e.below (m.words.key e.below)
    (value_below m.words e.below) in
    let claimer = (claims (scene m i) e.parent.tag filling).worker in
    let claims_card : ClaimsCard m stage i e.parent.tag filling IClaimed e.op = record {
      there = there;
      sound = sound;
      room = room;
      fresh = inl refl;
      busy = e.busy;
      ready = e.ready;
      own = insert_claimed m.words stage (m.worker i) e.what e.below e.node_key e.parent seen;
      hand = hand_putting (claimed m.words e.parent.tag filling) (put stage m.words.next IClaimed) claimer e.what m.words.next e.op e.puts
          (insert_in_hand m.words stage (m.worker i) e.what e.below e.node_key e.parent seen claimer e.at.stands e.at.behind e.at.calm);
    } in
    subst (λ s. Follows m stage act.Claim i said (with_scene m i s)) (sym e.gives)
    (subst (λ s. Follows m stage act.Claim i s (with_scene m i (claims (scene m i) e.parent.tag filling))) (sym e.says)
    (claim_follows m stage i e.parent.tag filling IClaimed e.op claims_card))

-- a claim for a delete keeps it
claim_delete : (m : Machine) (stage : Stages) (i : ℕ) (said : Stepped) (becomes : Scene) → i < m.count → Invariant m stage
    → m.words.next ≤ m.last_card
    → ClaimDelete (scene m i) said becomes → Follows m stage act.Claim i said (with_scene m i becomes)
claim_delete m stage i said becomes there sound room e =
    let own = sound.workers.each i in
    let stand = own.stands (Delete e.key) e.leaf e.deletes e.at.stands in
    let seen : DeleteSeen m.words stage (m.worker i) e.key e.leaf e.parent e.grandparent = record {
      words = sound.words;
      stand = stand;
      outer = e.at.outer;
      seen = (stand.parent e.parent e.at.behind).0;
      above = stand.grandparent e.parent e.grandparent e.at.behind e.above;
      calm = e.at.calm;
      present = e.present;
      real = own.real e.key (own.owned (Delete e.key) e.deletes);
    } in
    let filling = delete_filling e.grandparent.node e.parent.node e.leaf e.parent.word in
    let claims_card : ClaimsCard m stage i e.grandparent.tag filling DClaimed (Delete e.key) = record {
      there = there;
      sound = sound;
      room = room;
      fresh = inr refl;
      busy = e.deletes;
      ready = e.ready;
      own = delete_claimed m.words stage (m.worker i) e.key e.leaf e.parent e.grandparent seen;
      hand = delete_in_hand m.words stage (m.worker i) e.key e.leaf e.parent e.grandparent seen
          (claims (scene m i) e.grandparent.tag filling).worker e.at.stands e.at.behind e.above e.calm;
    } in
    subst (λ s. Follows m stage act.Claim i said (with_scene m i s)) (sym e.gives)
    (subst (λ s. Follows m stage act.Claim i s (with_scene m i (claims (scene m i) e.grandparent.tag filling))) (sym e.says)
    (claim_follows m stage i e.grandparent.tag filling DClaimed (Delete e.key) claims_card))

-- the claim keeps the invariant
pub keeps_claim : KeepsInvariant act.Claim
keeps_claim m stage i said becomes there sound happens =
    let full = happens.room in
    let room : m.words.next ≤ m.last_card = omega arith in
    elim happens.row [
      | inl e ↦ claim_insert m stage i said becomes there sound room e
      | inr e ↦ claim_delete m stage i said becomes there sound room e
    ]

use Rattle.std.proofs.Common.{◌≡◌, ℕ, ◌≤◌, true, Option, Some, None, refl, sym, ap, ◌∙◌, false, ◌≢◌, ◌⊎◌, subst}
use Rattle.ell_ops.specs.declared.op.Op.{Op}
use Rattle.ell_ops.specs.declared.op.Op.TheVariants.{Find, Insert, Delete, Swap}
use Rattle.ell_core.specs.declared.fact.Fact.TheVariants as fact
use Rattle.ell_core.specs.declared.view.Search.{Search}
use Rattle.ell_layout.specs.Words.{Words}
use Rattle.ell_core.specs.state.Machine.{Worker}
use Rattle.ell_core.specs.history.Stages.{Stages, is_insert, is_delete, insert_won, delete_won, is_claimed}
use Rattle.ell_core.specs.history.Invariant.{insert_key, insert_value, delete_key, StandIsSound, IsPutting, Unflagged, Flagged, WorkerIsSound}
use Rattle.ell_core.specs.history.Later.{SameInfo, StagesLater}
use Rattle.ell_core.proofs.lemmas.stages.Order.{insert_won-insert, delete_won-delete, insert-claimed, delete-claimed, insert_not_won, delete_not_won}

-- two searches stand at one node and came by the same parent and grandparent
pub record SamePlace (old new : Search) : Type 0 where
  pub node : new.node ≡ old.node
  pub parent : new.parent ≡ old.parent
  pub grandparent : new.grandparent ≡ old.grandparent

-- a search stands where it stands
pub same_place : (search : Search) → SamePlace search search
same_place search = record { node = refl; parent = refl; grandparent = refl }

-- a card goes where it went, for the key and the value that it had
pub record SameGoal (old new : Words) (stage : Stages) (c : ℕ) : Type 0 where
  pub insert : is_insert (stage c) ≡ true → SameInfo old new c × (insert_key new c ≡ insert_key old c) × (insert_value new c ≡ insert_value old c)
  pub delete : is_delete (stage c) ≡ true → SameInfo old new c × (delete_key new c ≡ delete_key old c)
  pub kind : is_insert (stage c) ≡ true → (was : Option ℕ) → IsPutting old c was → IsPutting new c was

-- in the same words it does
pub same_goal : (w : Words) (stage : Stages) (c : ℕ) → SameGoal w w stage c
same_goal w stage c = record {
  insert = λ h. (record { gp = refl; p = refl; l = refl; expects = refl; was = refl }, refl, refl);
  delete = λ h. (record { gp = refl; p = refl; l = refl; expects = refl; was = refl }, refl);
  kind = λ h was is. is;
}

-- a card in hand that is not flagged was claimed
pub unflagged_claimed : (w : Words) (stage : Stages) (v : Worker) (op : Op) (c : ℕ) → Unflagged w stage v op c
    → is_claimed (stage c) ≡ true
unflagged_claimed w stage v (Find k) c h = absurd h
unflagged_claimed w stage v (Insert k value) c h = insert-claimed (stage c) h.claimed.0
unflagged_claimed w stage v (Swap k was value) c h = insert-claimed (stage c) h.claimed.0
unflagged_claimed w stage v (Delete k) c h = delete-claimed (stage c) h.claimed.0

-- the card that a worker has in hand without its flag is another one
abbrev pub OtherInHand : Worker → ℕ → Type 0
OtherInHand v c = (op : Op) (d : ℕ) → v.operation ≡ Some op → v.card ≡ Some d → v.flagged ≡ false → d ≢ c

-- a card whose flag was won is no card in hand without its flag
won_not_unflagged : (w : Words) (stage : Stages) (v : Worker) (op : Op) (c : ℕ)
    → (insert_won (stage c) ≡ true) ⊎ (delete_won (stage c) ≡ true)
    → Unflagged w stage v op c → ⊥
won_not_unflagged w stage v (Find k) c won h = h
won_not_unflagged w stage v (Insert k value) c won h = insert_not_won (stage c) h.claimed.0 h.claimed.1 won
won_not_unflagged w stage v (Swap k was value) c won h = insert_not_won (stage c) h.claimed.0 h.claimed.1 won
won_not_unflagged w stage v (Delete k) c won h = delete_not_won (stage c) h.claimed.0 h.claimed.1 won

-- no worker has a card in hand without its flag whose flag was won
pub won_elsewhere : (w : Words) (stage : Stages) (v : Worker) (c : ℕ) → WorkerIsSound w stage v
    → (insert_won (stage c) ≡ true) ⊎ (delete_won (stage c) ≡ true) → OtherInHand v c
won_elsewhere w stage v c k won op d h g f same =
    won_not_unflagged w stage v op c won (subst (Unflagged w stage v op) same (k.unflagged op d h g f))

module _ (old new : Words) (stage stages : Stages) (v u : Worker) where
  -- a card in hand that is not flagged, with the same stage and goal, says what a search at the same place saw
  pub unflagged_same : (op : Op) (c : ℕ) → stages c ≡ stage c → SameGoal old new stage c → SamePlace v.search u.search
      → Unflagged old stage v op c → Unflagged new stages u op c
  unflagged_same (Find k) c at goal place h = h
  unflagged_same (Insert k value) c at goal place h = let same = goal.insert h.claimed.0 in record {
    parent = h.parent;
    claimed = (ap is_insert at ∙ h.claimed.0, ap insert_won at ∙ h.claimed.1);
    stands = place.node ∙ (h.stands ∙ ap Some (sym same.0.l));
    behind = place.parent ∙ h.behind;
    node = h.node ∙ sym same.0.p;
    calm = h.calm;
    earlier = h.earlier;
    tagged = h.tagged ∙ sym same.0.expects;
    own = same.1 ∙ h.own;
    own_value = same.2 ∙ h.own_value;
    kind = goal.kind h.claimed.0 None h.kind;
  }
  unflagged_same (Swap k was value) c at goal place h = let same = goal.insert h.claimed.0 in record {
    parent = h.parent;
    claimed = (ap is_insert at ∙ h.claimed.0, ap insert_won at ∙ h.claimed.1);
    stands = place.node ∙ (h.stands ∙ ap Some (sym same.0.l));
    behind = place.parent ∙ h.behind;
    node = h.node ∙ sym same.0.p;
    calm = h.calm;
    earlier = h.earlier;
    tagged = h.tagged ∙ sym same.0.expects;
    own = same.1 ∙ h.own;
    own_value = same.2 ∙ h.own_value;
    kind = goal.kind h.claimed.0 (Some was) h.kind;
  }
  unflagged_same (Delete k) c at goal place h = let same = goal.delete h.claimed.0 in record {
    parent = h.parent;
    grandparent = h.grandparent;
    claimed = (ap is_delete at ∙ h.claimed.0, ap delete_won at ∙ h.claimed.1);
    stands = place.node ∙ (h.stands ∙ ap Some (sym same.0.l));
    behind = place.parent ∙ h.behind;
    node = h.node ∙ sym same.0.p;
    was = h.was ∙ sym same.0.was;
    above = place.grandparent ∙ h.above;
    top_node = h.top_node ∙ sym same.0.gp;
    calm = h.calm;
    earlier = h.earlier;
    tagged = h.tagged ∙ sym same.0.expects;
    own = same.1 ∙ h.own;
  }

  -- a card in hand that is flagged, with a later stage and the same goal, is of the kind and key that the same ledger has
  pub flagged_same : (op : Op) (c : ℕ) → StagesLater stage stages → SameGoal old new stage c → u.ledger ≡ v.ledger
      → Flagged old stage v op c → Flagged new stages u op c
  flagged_same (Find k) c later goal same h = h
  flagged_same (Insert k value) c later goal same h = (
    later.told (fact.IFlagged c) c h.0,
    (goal.insert (insert_won-insert (stage c) h.0)).1 ∙ h.1,
    (goal.insert (insert_won-insert (stage c) h.0)).2 ∙ h.2,
    λ owns. ap (λ f. f k) same ∙ h.3 (λ none. owns (ap (λ f. f k) same ∙ none)),
    goal.kind (insert_won-insert (stage c) h.0) None h.4,
  )
  flagged_same (Swap k was value) c later goal same h = (
    later.told (fact.IFlagged c) c h.0,
    (goal.insert (insert_won-insert (stage c) h.0)).1 ∙ h.1,
    (goal.insert (insert_won-insert (stage c) h.0)).2 ∙ h.2,
    λ owns. ap (λ f. f k) same ∙ h.3 (λ none. owns (ap (λ f. f k) same ∙ none)),
    goal.kind (insert_won-insert (stage c) h.0) (Some was) h.4,
  )
  flagged_same (Delete k) c later goal same h = (
    later.told (fact.DFlagged c) c h.0,
    (goal.delete (delete_won-delete (stage c) h.0)).1 ∙ h.1,
    λ owns. (let was = h.2 (λ none. owns (ap (λ f. f k) same ∙ none)) in (was.0, ap (λ f. f k) same ∙ was.1)),
  )

-- a worker with the same ledger, at the same place, stands as it stood, if the word that it read is not past the node's
pub stands_same : (w : Words) (stage : Stages) (v u : Worker) (k x : ℕ) → SamePlace v.search u.search → u.ledger ≡ v.ledger
    → ((word : ℕ) → u.search.read ≡ Some word → word ≤ w.update x) → StandIsSound w stage v k x → StandIsSound w stage u k x
stands_same w stage v u k x place same read h = record {
  born = h.born;
  read = read;
  leads = λ owns value. (let was = h.leads (λ none. owns (ap (λ f. f k) same ∙ none)) value in
      (λ l. ap (λ f. f k) same ∙ was.0 l, λ e. was.1 (sym (ap (λ f. f k) same) ∙ e)));
  course = h.course;
  parent = λ seen e. h.parent seen (sym place.parent ∙ e);
  grandparent = λ seen above e f. h.grandparent seen above (sym place.parent ∙ e) (sym place.grandparent ∙ f);
  has_parent = λ n e. h.has_parent n (sym place.parent ∙ e);
  has_grandparent = λ seen e n f. h.has_grandparent seen (sym place.parent ∙ e) n (sym place.grandparent ∙ f);
  deep = λ outer real e. h.deep outer real (sym place.grandparent ∙ e);
}

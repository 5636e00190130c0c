use Rattle.std.proofs.Common.{◌≡◌, ◌≢◌, ℕ, ◌+◌, ◌<◌, ◌≤◌, ◌==◌, ◌⊎◌, inl, inr, if◌then◌else◌, Bool, true, false, nat_lt, Some, None, List, length, get_or, refl, sym, ap, ◌∙◌, subst, arith, ◌&&◌, ◌%◌}
use Rattle.std.proofs.lemmas.Bool.{false≢true, cases_lt, and_from, eq-eqb, lt-ltb, le-ltb}
use Rattle.std.proofs.lemmas.Option.{none-some, same_Some}
use Rattle.std.proofs.lemmas.List.Folds.{Any-from_list_any, list_any_at}
use Rattle.std.specs.List.{All, list_any}
use Rattle.std.specs.List.Sorted.{IsStrictlyIncreasing}
use Rattle.std.specs.Map.{keys_of}
use Rattle.ell_core.proofs.lemmas.stages.Order.{all-born}
use Rattle.ell_core.proofs.lemmas.tree.Reached.{leads_any, leads_some, one_value}
use Rattle.ell_ops.specs.Contents.{contents_of}
use Rattle.ell_ops.proofs.lemmas.Pairs.{contents_at, place_in}
use Rattle.ell_ops.specs.Meaning.{greatest_key}
use Rattle.ell_word.specs.Node.{IsInternal, IsNode, card, internal}
use Rattle.ell_layout.specs.Words.{Words}
use Rattle.ell_layout.specs.Cards.{iflag, dflag, marked, clean}
use Rattle.ell_core.specs.state.Machine.{Machine, idle, entry_of}
use Rattle.ell_core.specs.history.Stages.{Stage, Stages, Unclaimed, Opening, Born, is_claimed, is_start, is_insert, is_delete, is_node_born, insert_open, delete_open, insert_won, delete_won}
use Rattle.ell_core.specs.history.Invariant.{GoesNowhere, Invariant, top, LeadsTo, LeadsToValue, IsIn, CardIsSound, ChildrenAreSound, UpdateIsSound, TreeIsSound, WordsAreSound, WorkerIsSound, WorkersAreSound}
use Rattle.ell_trie.specs.Ranges.{IsOrdered}
use Rattle.ell_core.proofs.lemmas.keeping.going_on.Stages.{no_insert, no_delete}
use Rattle.ell_core.proofs.lemmas.opening.Owners.{ledger_there, opening_one_owner, opening_stranger, opening_real, opening_given}
use Rattle.ell_core.proofs.lemmas.outcomes.Decide.{some_not_none}
use Rattle.ell_core.specs.statements.RunLaws.{MayBeThere}
use Rattle.ell_core.specs.state.Opening.{Setup, last_card, gives, Faultless, opening_ledger, opening, is_given, start_entry, shares}
use Rattle.ell_layout.specs.Start.{start_leaf, start_value, start_words, words_at_start}
use Rattle.ell_core.proofs.lemmas.opening.StartTree.{tree_ordered, card_reached, child_more, child_deeper, child_on, child_node, left_less, right_least, finds_leaf, finds_leaves_only}
use Rattle.ell_layout.proofs.lemmas.Start.{keys_length, leaf_last, leaf_root, root_fields}
use Rattle.ell_core.proofs.lemmas.opening.StartWords.{start_from, has_value, leaf_key, leaves_rise, leaves_end, has_branches, clean_update, goes_none, later_blank}
use Rattle.ell_layout.specs.declared.field.Field.TheVariants.{Key, RightLeafKey}
use Rattle.ell_core.specs.declared.view.Entry.TheVariants.{Present}
use Rattle.ell_core.proofs.lemmas.opening.KeyLists.{holds_present}
use Rattle.ell_layout.specs.Branches.{depth_of}
use Rattle.ell_trie.specs.Tries.{IsTrie}
use Rattle.ell_trie.proofs.lemmas.Paths as paths
use Rattle.ell_core.specs.tree.Flat.{opening_from}
use Rattle.ell_core.specs.tree.Rank.{rank}
use Rattle.ell_core.proofs.lemmas.tree.Blocks.{block_by, none_before}
use Rattle.ell_core.proofs.lemmas.tree.Ranks.{rank_plain, rank_flat, depths_few}

-- the card from which a tree is flat whose opening tree has so many: the first one after those, and 0 if it is not flat
abbrev pub flat_start : Bool → ℕ → ℕ
flat_start true end = end
flat_start false end = 0

-- if that is not 0, it is that one
pub flat_is : (flat : Bool) (end : ℕ) → 0 < flat_start flat end → flat_start flat end ≡ end
flat_is true end some = refl
flat_is false end some = absurd (omega arith)

-- the words at the start are those of a tree that is flat from there on
pub start_words_are : (flat : Bool) (start : List (ℕ × ℕ)) → words_at_start flat start ≡ start_from start (flat_start flat (length start + 1))
start_words_are true start = refl
start_words_are false start = refl

-- the stages at the start: the cards below this number have the opening tree, and no other card is claimed
abbrev pub start_stages : ℕ → Stages
start_stages end c = if nat_lt c end then Opening else Unclaimed

pub stage_there : (end c : ℕ) → c < end → start_stages end c ≡ Opening
stage_there end c below = ap (λ t. if t then Opening else Unclaimed) (lt-ltb c end below)

pub stage_past : (end c : ℕ) → end ≤ c → start_stages end c ≡ Unclaimed
stage_past end c past = ap (λ t. if t then Opening else Unclaimed) (le-ltb c end past)

-- a stage at the start is one of the two
start_cases : (end c : ℕ) → ((c < end) × (start_stages end c ≡ Opening)) ⊎ ((end ≤ c) × (start_stages end c ≡ Unclaimed))
start_cases end c = elim (cases_lt c end) [
  | inl below ↦ inl (below, stage_there end c below)
  | inr past ↦ inr (past, stage_past end c past)
]

-- what is so of both stages is so of every card's
pub each_stage : (P : Stage → Type 0) (end c : ℕ) → P Opening → P Unclaimed → P (start_stages end c)
each_stage P end c there past = elim (start_cases end c) [
  | inl h ↦ subst P (sym h.1) there
  | inr h ↦ subst P (sym h.1) past
]

-- a card whose nodes came into the tree is one of the opening tree's
born_below : (end c place : ℕ) → is_node_born (start_stages end c) place ≡ true → c < end
born_below end c place born = elim (start_cases end c) [
  | inl h ↦ h.0
  | inr h ↦ absurd (false≢true (sym (ap (λ s. is_node_born s place) h.1) ∙ born))
]

below_born : (end c place : ℕ) → place ≤ 2 → c < end → is_node_born (start_stages end c) place ≡ true
below_born end c place low below = ap (λ s. is_node_born s place) (stage_there end c below) ∙ all-born Opening place low refl

-- no card is an insert's, or a delete's
no_insert_yet : (end c : ℕ) → is_insert (start_stages end c) ≡ false
no_insert_yet end c = each_stage (λ s. is_insert s ≡ false) end c refl refl

no_delete_yet : (end c : ℕ) → is_delete (start_stages end c) ≡ false
no_delete_yet end c = each_stage (λ s. is_delete s ≡ false) end c refl refl

-- a card is claimed exactly if it is one of the opening tree's
claimed_below : (end c : ℕ) → is_claimed (start_stages end c) ≡ true → c < end
claimed_below end c is = elim (start_cases end c) [
  | inl h ↦ h.0
  | inr h ↦ absurd (false≢true (sym (ap is_claimed h.1) ∙ is))
]

unclaimed_past : (end c : ℕ) → is_claimed (start_stages end c) ≡ false → end ≤ c
unclaimed_past end c is = elim (start_cases end c) [
  | inl h ↦ absurd (false≢true (sym is ∙ ap is_claimed h.1))
  | inr h ↦ h.0
]

-- a card of the stage of the opening tree's is one of these
start_below : (end c : ℕ) → is_start (start_stages end c) ≡ true → c < end
start_below end c is = elim (start_cases end c) [
  | inl h ↦ h.0
  | inr h ↦ absurd (false≢true (sym (ap is_start h.1) ∙ is))
]

-- a key that an entry names is some worker's
pub record IsGiven (owned start : List (ℕ × ℕ)) (key : ℕ) : Type 0 where
  pub worker : ℕ
  pub owns : opening_ledger owned start worker key ≢ None

given_owned : (owned start : List (ℕ × ℕ)) (key : ℕ) → is_given owned key ≡ true → IsGiven owned start key
given_owned owned start key is =
    let any = Any-from_list_any (λ (entry : ℕ × ℕ). entry.1 == key) owned is in
    let test : gives any.1.0 key any.1 ≡ true = and_from (any.1.0 == any.1.0) (any.1.1 == key) (eq-eqb any.1.0 any.1.0 refl) any.4 in
    let at : gives any.1.0 key (get_or owned any.0 any.1) ≡ true = ap (gives any.1.0 key) any.3 ∙ test in
    let some : list_any (gives any.1.0 key) owned ≡ true = list_any_at (gives any.1.0 key) owned any.0 any.1 any.2 at in
    record { worker = any.1.0; owns = λ none. some_not_none (ap (λ t. if t then Some (start_entry start key) else None) some) none }

module _ (start : List (ℕ × ℕ)) (ascending : IsStrictlyIncreasing (keys_of start)) (real : All (λ k. k ≤ greatest_key) (keys_of start)) where
  -- how many cards the opening tree has
  abbrev end : ℕ
  end = length start + 1

  abbrev w : Words
  w = start_words start

  some : 0 < length start + 1
  some = omega arith

  -- the tree of the start keys is in order, by any ranks that rise from its nodes to their children
  ordered : (ranks : ℕ → ℕ) → ((right : Bool) (c : ℕ) → c < length start + 1 → ranks (internal c) < ranks (w.child (internal c) right))
      → IsOrdered w.key w.child top ranks
  ordered = tree_ordered (length start + 1) some (start_leaf start) w.key w.child (has_value start) top (leaves_rise start ascending real) (leaves_end start ascending real)
      (has_branches start)

  -- children have greater numbers, and are deeper
  more : (right : Bool) (c : ℕ) → c < length start + 1 → internal c < w.child (internal c) right
  more = child_more (length start + 1) some (start_leaf start) w.key w.child (has_value start) top (leaves_rise start ascending real) (leaves_end start ascending real)
      (has_branches start)

  deeper : (right : Bool) (c : ℕ) → c < length start + 1 → IsInternal (w.child (internal c) right)
      → depth_of (length start + 1) c < depth_of (length start + 1) (card (w.child (internal c) right))
  deeper = child_deeper (length start + 1) some (start_leaf start) w.key w.child (has_value start) top (leaves_rise start ascending real) (leaves_end start ascending real)
      (has_branches start)

  -- their keys are on their sides
  less : (c : ℕ) → c < length start + 1 → w.key (w.child (internal c) false) < w.key (internal c)
  less = left_less (length start + 1) some (start_leaf start) w.key w.child (has_value start) top (leaves_rise start ascending real) (leaves_end start ascending real)
      (has_branches start)

  least : (c : ℕ) → c < length start + 1 → w.key (internal c) ≤ w.key (w.child (internal c) true)
  least = right_least (length start + 1) some (start_leaf start) w.key w.child (has_value start) top (leaves_rise start ascending real) (leaves_end start ascending real)
      (has_branches start)

  -- all nodes are reached, and on the cards of the tree
  reached : (c : ℕ) → c < length start + 1 → IsIn w (internal c)
  reached = card_reached (length start + 1) some (start_leaf start) w.key w.child (has_value start) top (leaves_rise start ascending real) (leaves_end start ascending real)
      (has_branches start)

  on_card : (c : ℕ) (right : Bool) → c < length start + 1 → card (w.child (internal c) right) < length start + 1
  on_card = child_on (length start + 1) some (start_leaf start) w.key w.child (has_value start) top (leaves_rise start ascending real) (leaves_end start ascending real)
      (has_branches start)

  is_node : (c : ℕ) (right : Bool) → c < length start + 1 → IsNode (w.child (internal c) right)
  is_node = child_node (length start + 1) some (start_leaf start) w.key w.child (has_value start) top (leaves_rise start ascending real) (leaves_end start ascending real)
      (has_branches start)

  -- each leaf's key is found, with its value
  finds : (i : ℕ) → i ≤ length start + 1 → LeadsToValue w (start_leaf start i) (start_value start i) 0
  finds = finds_leaf (length start + 1) some (start_leaf start) w.key w.child (has_value start) top (leaves_rise start ascending real)
      (leaves_end start ascending real) (has_branches start)

  -- a real key that is found is a start key, with its value
  pub found_start : (k value : ℕ) → k ≤ greatest_key → LeadsToValue w k value 0 → contents_of start k ≡ Some value
  found_start k value low found =
      let leaf = finds_leaves_only (length start + 1) some (start_leaf start) w.key w.child (has_value start) top (leaves_rise start ascending real)
      (leaves_end start ascending real) (has_branches start) k found in
      let within = leaf.inside in
      let is = leaf.is in
      elim (cases_lt leaf.at (length start)) [
        | inl below ↦
            let key_is : get_or (keys_of start) leaf.at 0 ≡ k = sym (leaf_key start leaf.at below) ∙ is in
            let there = subst (λ n. LeadsToValue w n (start_value start leaf.at) 0) is (finds leaf.at within) in
            let value_is : value ≡ start_value start leaf.at = one_value w k value (start_value start leaf.at) found there in
            ap (contents_of start) (sym key_is) ∙ (contents_at start leaf.at ascending below ∙ ap Some (sym value_is))
        | inr past ↦ absurd (elim (cases_lt (length start) leaf.at) [
          | inl more ↦ (let e : leaf.at ≡ length start + 1 = omega arith in let h = ap (start_leaf start) e ∙ leaf_root start in omega arith)
          | inr less ↦ (let e : leaf.at ≡ length start = omega arith in let h = ap (start_leaf start) e ∙ leaf_last start in omega arith)
        ])
      ]

  -- and each start key is found
  pub start_found : (k value : ℕ) → contents_of start k ≡ Some value → LeadsToValue w k value 0
  start_found k value is =
      let place = place_in start k value is in
      let below = place.below in
      subst (λ n. LeadsToValue w n value 0) (leaf_key start place.at below ∙ place.key_is)
      (subst (λ v. LeadsToValue w (start_leaf start place.at) v 0) place.value_is (finds place.at (omega arith)))

  -- the children of a node of the tree came into it
  children_born : (c : ℕ) (right : Bool) → c < length start + 1 → Born (start_stages (length start + 1)) (w.child (internal c) right)
  children_born c right below = below_born (length start + 1) (card (w.child (internal c) right)) (w.child (internal c) right % 4)
      (let node = is_node c right below in omega (arith, node)) (on_card c right below)

  -- an internal node that came into it is that of one of its cards
  node_of : (x : ℕ) → IsInternal x → x ≡ internal (card x)
  node_of x inner = omega arith

  node_there : (x : ℕ) → Born (start_stages (length start + 1)) x → card x < length start + 1
  node_there x born = born_below (length start + 1) (card x) (x % 4) born

  node_less : (c : ℕ) → c < length start + 1 → card (internal c) < length start + 1
  node_less c below = omega arith

  -- the words of a tree that is not flat, or is flat from the first card on that is not of the opening tree
  module _ (from : ℕ) (flat : 0 < from → from ≡ length start + 1) where
    -- the nodes of the opening tree have no blocks
    not_out : (x : ℕ) → IsInternal x → 0 < from → Born (start_stages (length start + 1)) x → ¬ ((opening_from from).holds x ≡ false)
    not_out x inner is_flat born out =
        let is = flat is_flat in
        let below = node_there x born in
        false≢true (sym (none_before from x inner (omega arith)) ∙ block_by from x out)

    -- a flat tree is a trie
    trie : 0 < from → IsTrie (Born (start_stages (length start + 1))) (opening_from from) w.key w.child
    trie is_flat = record {
      start = below_born (length start + 1) 0 0 (omega arith) some;
      closed = λ x side inner born. subst (λ n. Born (start_stages (length start + 1)) (w.child n side)) (sym (node_of x inner))
          (children_born (card x) side (node_there x born));
      plain = λ x side inner born out. absurd (not_out x inner is_flat born out);
      deeper = λ x side inner born held below. subst (λ n. depth_of n (card x) < depth_of n (card (w.child x side))) (sym (flat is_flat))
          (subst (λ n. depth_of (length start + 1) (card x) < depth_of (length start + 1) (card (w.child n side))) (sym (node_of x inner))
          (deeper side (card x) (node_there x born) (subst (λ n. IsInternal (w.child n side)) (node_of x inner) below)));
      few = λ x inner held. depths_few from x is_flat inner held;
      small = λ x inner born out. absurd (not_out x inner is_flat born out);
      leaf = λ x side inner born out. absurd (not_out x inner is_flat born out);
      inner = λ x side inner born out. absurd (not_out x inner is_flat born out);
    }

    -- children have greater ranks
    rising : (right : Bool) (c : ℕ) → c < length start + 1
        → rank (start_from start from) (internal c) < rank (start_from start from) (w.child (internal c) right)
    rising right c below = elim (cases_lt 0 from) [
      | inr none ↦
          let first = rank_plain (start_from start from) (omega arith) (internal c) in
          let second = rank_plain (start_from start from) (omega arith) (w.child (internal c) right) in
          let up = more right c below in
          omega arith
      | inl is_flat ↦
          let first = rank_flat (start_from start from) is_flat (internal c) in
          let second = rank_flat (start_from start from) is_flat (w.child (internal c) right) in
          let up = paths.rank_rises (trie is_flat) (internal c) right (omega arith)
          (below_born (length start + 1) (card (internal c)) (internal c % 4) (omega arith) (node_less c below)) in
          omega arith
    ]

    -- each card is sound
    card_sound : (c : ℕ) → CardIsSound (start_from start from) (start_stages (length start + 1)) c
    card_sound c = record {
      claimed = (claimed_below (length start + 1) c, λ below. ap is_claimed (stage_there (length start + 1) c below));
      insert = λ h. absurd (false≢true (sym (no_insert_yet (length start + 1) c) ∙ h));
      delete = λ h. absurd (false≢true (sym (no_delete_yet (length start + 1) c) ∙ h));
      unborn = λ h. absurd (false≢true (sym (no_insert_yet (length start + 1) c) ∙ h));
      blank = λ h. later_blank start from c (let past = unclaimed_past (length start + 1) c h in omega arith);
    }

    -- so are the internal nodes that came into the tree, and the tree
    children_sound : (c : ℕ) → c < length start + 1 → ChildrenAreSound (start_from start from) (start_stages (length start + 1)) (internal c)
    children_sound c below = record {
      born = λ right. children_born c right below;
      rising = λ right. rising right c below;
      left_less = less c below;
      right_more = least c below;
    }

    update_sound : (c : ℕ) → c < length start + 1 → UpdateIsSound (start_from start from) (start_stages (length start + 1)) (internal c)
    update_sound c below = let calm : w.update (internal c) ≡ clean 0 = clean_update start c below in record {
      named = omega arith;
      iflagged = λ d h. let h : w.update (internal c) ≡ iflag d = h in absurd (omega arith);
      dflagged = λ d h. let h : w.update (internal c) ≡ dflag d = h in absurd (omega arith);
      marked = λ d h. let h : w.update (internal c) ≡ marked d = h in absurd (omega arith);
    }

    tree_sound : TreeIsSound (start_from start from) (start_stages (length start + 1))
    tree_sound = record {
      ordered = ordered (rank (start_from start from)) rising;
      trie = trie;
      root_key = root_fields start Key;
      root_right = refl;
      right_key = root_fields start RightLeafKey;
      last = subst (λ n. LeadsTo w n 0) (leaf_last start)
          (leads_any w (start_leaf start (length start)) (start_value start (length start)) 0 (finds (length start) (omega arith)));
      there = λ x inner born calm. subst (IsIn w) (sym (node_of x inner)) (reached (card x) (node_there x born));
    }

    -- the words at the start are sound
    pub from_sound : WordsAreSound (start_from start from) (start_stages (length start + 1))
    from_sound = record {
      opening = stage_there (length start + 1) 0 some;
      flat = λ is_flat c. (
        λ below. ap is_start (stage_there (length start + 1) c (let is = flat is_flat in omega arith)),
        λ is. let below = start_below (length start + 1) c is in let e = flat is_flat in omega arith,
      );
      tags = λ x right. omega arith;
      cards = card_sound;
      inserts = λ c. no_insert (start_from start from) (start_stages (length start + 1)) c (each_stage (λ s. insert_won s ≡ false) (length start + 1) c refl refl);
      deletes = λ c. no_delete (start_from start from) (start_stages (length start + 1)) c (each_stage (λ s. delete_won s ≡ false) (length start + 1) c refl refl);
      children = λ x inner born. subst (ChildrenAreSound (start_from start from) (start_stages (length start + 1))) (sym (node_of x inner))
          (children_sound (card x) (node_there x born));
      updates = λ x inner born. subst (UpdateIsSound (start_from start from) (start_stages (length start + 1))) (sym (node_of x inner))
          (update_sound (card x) (node_there x born));
      tree = tree_sound;
    }

-- the first of two that are true
first_of : (a b : Bool) → (a && b) ≡ true → a ≡ true
first_of true b h = refl
first_of false b h = absurd (false≢true h)

-- what the first worker does not share, nobody does
first_shares : (count : ℕ) (shared : ℕ → Bool) (k : ℕ) → 0 < count → shares count shared 0 k ≡ false → shared k ≡ false
first_shares count shared k some none = by (shared k) (nat_lt 0 count) refl (lt-ltb 0 count some) none
  where
    by : (a b : Bool) → shared k ≡ a → b ≡ true → (a && b) ≡ false → shared k ≡ false
    by false b is there h = is
    by true b is there h = absurd (false≢true (sym h ∙ there))

-- where the start keys ascend, no entry is faulty, each names a real key, and each start key is given or shared
module _ (setup : Setup) (ascending : IsStrictlyIncreasing (keys_of setup.start)) (real : All (λ k. k ≤ greatest_key) (keys_of setup.start))
    (faultless : Faultless setup.count setup.owned) (owned_real : All (λ entry. entry.1 ≤ greatest_key) setup.owned)
    (given : All (MayBeThere setup) (keys_of setup.start))
    (not_owned : (k : ℕ) → setup.shared k ≡ true → (k ≤ greatest_key) × (is_given setup.owned k ≡ false)) where
  -- the state with the words of a tree that is flat from a card on
  abbrev start_state : ℕ → Machine
  start_state from = record {
    words = start_from setup.start from;
    count = setup.count;
    last_card = last_card setup.start setup.cards;
    worker = λ i. idle (opening_ledger setup.owned setup.start i) (shares setup.count setup.shared i) (λ _. false);
  }

  worker_sound : (w : Words) (i : ℕ) → WorkerIsSound w (start_stages (length setup.start + 1)) (idle (opening_ledger setup.owned setup.start i) (shares setup.count setup.shared i) (λ _. false))
  worker_sound w i = record {
    facts = λ fact h. absurd (false≢true h);
    real = λ k may. elim may [ inl owns ↦ opening_real setup.owned setup.start i k owned_real owns | inr shared ↦ (not_owned k (first_of (setup.shared k) (nat_lt i setup.count) shared)).0 ];
    free = λ h. refl;
    owned = λ op h. absurd (none-some op h);
    stands = λ op x h g. absurd (none-some op h);
    unflagged = λ op c h g f. absurd (none-some op h);
    flagged = λ op c h g f. absurd (none-some op h);
  }

  -- a start key that is not shared has an owner
  pub start_owned : (k value : ℕ) → contents_of setup.start k ≡ Some value → ((0 < setup.count) → setup.shared k ≡ false) → IsGiven setup.owned setup.start k
  start_owned k value is not_shared =
      let place = place_in setup.start k value is in
      let below = place.below in
      let n = keys_length setup.start in
      elim (subst (MayBeThere setup) place.key_is (given place.at 0 (omega arith))) [
        | inl own ↦ given_owned setup.owned setup.start k own
        | inr shared ↦ absurd (false≢true (sym (not_shared shared.0) ∙ shared.1))
      ]

  workers_sound : (from : ℕ) → WorkersAreSound (start_state from) (start_stages (length setup.start + 1))
  workers_sound from = record {
    each = worker_sound (start_from setup.start from);
    one_owner = λ i j k a b. opening_one_owner setup.count setup.owned setup.start faultless i j k a b;
    present = λ i k value owns. (
      λ found. ledger_there setup.owned setup.start i k owns
          ∙ ap (λ there. Some (entry_of there)) (found_start setup.start ascending real k value (opening_real setup.owned setup.start i k owned_real owns) found),
      λ has. start_found setup.start ascending real k value
          (holds_present (contents_of setup.start k) value
          (same_Some (start_entry setup.start k) (Present value) (sym (ledger_there setup.owned setup.start i k owns) ∙ has))),
    );
    apart = λ i j k shared owns. opening_given setup.owned setup.start j k (not_owned k (first_of (setup.shared k) (nat_lt i setup.count) shared)).1 owns;
    one_hand = λ i j c left right. absurd (none-some c left);
    owned = λ k below found none.
        let there = leads_some (start_words setup.start) k found in
        let at = start_owned k there.0 (found_start setup.start ascending real k there.0 below there.1) (λ some. first_shares setup.count setup.shared k some (none 0)) in
        record { worker = at.worker; owns = at.owns };
    insert_in_hand = λ c h. absurd (false≢true (sym (each_stage (λ s. insert_open s ≡ false) (length setup.start + 1) c refl refl) ∙ h));
    delete_in_hand = λ c h. absurd (false≢true (sym (each_stage (λ s. delete_open s ≡ false) (length setup.start + 1) c refl refl) ∙ h));
    strangers = opening_stranger setup.count setup.owned setup.start faultless setup.shared;
  }

  -- the cards of the opening tree go nowhere
  start_nowhere : (from c : ℕ) → is_start (start_stages (length setup.start + 1) c) ≡ true → GoesNowhere (start_from setup.start from) c
  start_nowhere from c is =
      let below = start_below (length setup.start + 1) c is in
      let none = goes_none setup.start c below in
      record { below = below; gp = none.0; parent = none.1; leaf = none.2; was = none.3; expects = refl }

  -- and there are no other claimed cards
  start_only : (c : ℕ) → c < length setup.start + 1 → is_start (start_stages (length setup.start + 1) c) ≡ false
      → (is_insert (start_stages (length setup.start + 1) c) ≡ true) ⊎ (is_delete (start_stages (length setup.start + 1) c) ≡ true)
  start_only c below is = absurd (false≢true (sym is ∙ ap is_start (stage_there (length setup.start + 1) c below)))

  -- the state has the invariant, if the tree is not flat, or flat from the first card on that is not of the opening tree
  state_invariant : (from : ℕ) → (0 < from → from ≡ length setup.start + 1) → Invariant (start_state from) (start_stages (length setup.start + 1))
  state_invariant from flat = record {
    words = from_sound setup.start ascending real from flat;
    workers = workers_sound from;
    limit = omega arith;
    kinds = record { start = start_nowhere from; some = omega arith; kinds = start_only };
  }

  -- so the opening state has it
  pub opening_invariant : Invariant (opening setup) (start_stages (length setup.start + 1))
  unfolding opening
  opening_invariant = subst (λ words. Invariant (record (start_state 0) { words = words }) (start_stages (length setup.start + 1)))
      (sym (start_words_are setup.flat setup.start))
      (state_invariant (flat_start setup.flat (length setup.start + 1)) (flat_is setup.flat (length setup.start + 1)))

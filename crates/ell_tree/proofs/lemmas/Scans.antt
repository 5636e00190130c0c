use Rattle.std.proofs.Common.{◌≡◌, ◌≢◌, ◌==◌, IfSome, unwrap_or, ℕ, suc, ◌+◌, ◌-◌, nat_le, ◌<◌, ◌≤◌, ◌⊎◌, inl, inr, if◌then◌else◌, cond, Bool, Option, Some, None, List, [], ◌∷◌, ◌++◌, length, get_or, take, drop, set, map, refl, sym, ap, ◌∙◌, subst, arith, eq-eqb}
use Rattle.std.specs.List.{All}
use Rattle.std.specs.List.Sorted.{IsStrictlyIncreasing}
use Rattle.std.specs.Map.{keys_of}
use Rattle.std.proofs.lemmas.Bool.{cases_eq, cases_lt, le-leb, leb-true, lt-leb, ne_eqb}
use Rattle.std.proofs.lemmas.List.{drop-drop, drop-set-lt, get_or_append_left, get_or_push, length-set, length_push, map_push, take_more_set}
use Rattle.std.proofs.lemmas.List.Elements.{All-push}
use Rattle.std.proofs.lemmas.Map.Entries.{lookup_head, lookup_tail}
use Rattle.ell_ops.specs.Contents.{Contents, contents_of}
use Rattle.ell_ops.specs.Meaning.{greatest_key}
use Rattle.ell_runs.specs.declared.view.Told.TheVariants.{Key, Value}
use Rattle.ell_runs.specs.declared.view.View.{View}
use Rattle.ell_runs.specs.Guards.{TellsOf}
use Rattle.ell_runs.specs.Looking.{HasFound, KeysAreFixed, ReadsItsOwn}
use Rattle.ell_runs.specs.Plans.{TablePlan}
use Rattle.ell_cards.specs.Models.{PassModel}
use Rattle.ell_cards.proofs.lemmas.shown.InRuns.{looks_are_of_one_state}
use Rattle.ell_tree.specs.declared.scanning.Pair.{Pair}
use Rattle.ell_tree.specs.declared.cursor.About.{About}
use Rattle.ell_tree.specs.Cursors.{FindsAbout, IsWithin, IsLower, IsNodeKey, IsUpper, KeepsLooking}
use Rattle.ell_tree.specs.Ledgers.{TreeModel}
use Rattle.ell_tree.specs.Looks.{stretch_steps}
use Rattle.ell_tree.specs.Scans.{AreFoundIn, AreInOrder, HaveFound, HasFoundLast, HasFoundNext, IsLastIn, IsNextIn, value_there}
use Rattle.ell_tree.proofs.lemmas.Cursors.{come_on}
use Rattle.ell_tree.proofs.lemmas.Stretching.{Stretches, stretches_more}
use Rattle.ell_runs.specs.Depths.{deepest}

-- what a look has found of a key stays found while it goes on
pub found_on : (old new : PassModel) (n key : ℕ) (there : Option ℕ) → KeepsLooking old new n → HasFound old.view key there → HasFound new.view key there
found_on old new n key there on f = record {
  leaf = f.leaf;
  leaf_key = f.leaf_key;
  comes = come_on old new n f.leaf key (key + 1) on f.comes;
  outer = f.outer;
  told = on.told (Key f.leaf f.leaf_key) f.told;
  tells = by there f.tells;
}
  where
    by : (there : Option ℕ) → TellsOf old.view f.leaf f.leaf_key key there → TellsOf new.view f.leaf f.leaf_key key there
    by None tells = tells
    by (Some value) tells = (tells.0, on.told (Value f.leaf value) tells.1)

-- a key that none of these pairs has is not among them
pub none_gathered : (pairs : List (ℕ × ℕ)) (key : ℕ) → All (λ k. k ≢ key) (keys_of pairs) → contents_of pairs key ≡ None
none_gathered [] key apart = refl
none_gathered (e ∷ es) key apart =
    lookup_tail (λ k. key == k) e es (ne_eqb key e.0 (λ same. apart 0 0 (omega arith) (sym same)))
    ∙ none_gathered es key (λ k d low. apart (suc k) d (omega arith))

-- one pair more says nothing of another key
more_elsewhere : (pairs : List (ℕ × ℕ)) (pair : ℕ × ℕ) (key : ℕ) → pair.0 ≢ key → contents_of (pairs ++ pair ∷ []) key ≡ contents_of pairs key
more_elsewhere [] pair key other = lookup_tail (λ k. key == k) pair [] (ne_eqb key pair.0 (λ same. other (sym same)))
more_elsewhere (e ∷ es) pair key other = ap (λ (o : Option ℕ). cond (key == e.0) (Some e.1) o) (more_elsewhere es pair key other)

-- and of a key that none had it says all
more_there : (pairs : List (ℕ × ℕ)) (pair : ℕ × ℕ) (key : ℕ) → All (λ k. k ≢ key) (keys_of pairs)
    → contents_of (pairs ++ pair ∷ []) key ≡ value_there (Some pair) key
more_there [] pair key apart = elim (cases_eq pair.0 key) [
  | inl same ↦
      lookup_head (λ k. key == k) pair [] (eq-eqb key pair.0 (sym same))
      ∙ sym (ap (λ (b : Bool). if b then Some pair.1 else None) (eq-eqb pair.0 key same))
  | inr other ↦
      lookup_tail (λ k. key == k) pair [] (ne_eqb key pair.0 (λ same. other (sym same)))
      ∙ sym (ap (λ (b : Bool). if b then Some pair.1 else None) (ne_eqb pair.0 key other))
]
more_there (e ∷ es) pair key apart =
    lookup_tail (λ k. key == k) e (es ++ pair ∷ []) (ne_eqb key e.0 (λ same. apart 0 0 (omega arith) (sym same)))
    ∙ more_there es pair key (λ k d low. apart (suc k) d (omega arith))

-- an ascending list with one more number, which none of it reaches
ascending_more : (keys : List ℕ) (key : ℕ) → IsStrictlyIncreasing keys → All (λ k. k < key) keys → IsStrictlyIncreasing (keys ++ key ∷ [])
ascending_more keys key up less k low =
    let long = length_push keys key in
    subst (λ x. x < get_or (keys ++ key ∷ []) (k + 1) 0) (sym (get_or_append_left keys (key ∷ []) 0 k (omega arith)))
    (elim (cases_lt (k + 1) (length keys)) [
      | inl inner ↦ subst (λ y. get_or keys k 0 < y) (sym (get_or_append_left keys (key ∷ []) 0 (k + 1) inner)) (up k inner)
      | inr last ↦ subst (λ y. get_or keys k 0 < y) (sym (get_or_push keys key 0 (k + 1) (omega arith))) (less k 0 (omega arith))
    ])

-- a scan that has come to a key, or to the end of its range, has found each key so far: it is among these pairs, or absent; and they ascend
pub record Gathers (v : View) (from at upto : ℕ) (pairs : List (ℕ × ℕ)) : Type 0 where
  pub found : (key : ℕ) → from ≤ key → key < at → key < upto → HasFound v key (contents_of pairs key)
  pub ascending : IsStrictlyIncreasing (keys_of pairs)
  pub within : All (λ key. (from ≤ key) × (key < at) × (key < upto)) (keys_of pairs)

module _ (old new : PassModel) (n from at high upto : ℕ) (pairs : List (ℕ × ℕ)) (g : Gathers old.view from at upto pairs) (on : KeepsLooking old new n)
    (began : from ≤ at) (deeper : at < high) where
  -- no pair so far has a key from here on
  apart : (key : ℕ) → at ≤ key → All (λ k. k ≢ key) (keys_of pairs)
  apart key after k d low same = let w = g.within k d low in omega arith

  -- a stretch whose keys are absent
  gathers_past : ((key : ℕ) → at ≤ key → key < high → key < upto → HasFound new.view key None) → Gathers new.view from high upto pairs
  gathers_past nothing = record {
    found = λ key low less more. elim (cases_lt key at) [
      | inl before ↦ found_on old new n key (contents_of pairs key) on (g.found key low before more)
      | inr after ↦ subst (λ (o : Option ℕ). HasFound new.view key o) (sym (none_gathered pairs key (apart key after))) (nothing key after less more)
    ];
    ascending = g.ascending;
    within = λ k d low. let w = g.within k d low in (w.0, omega arith, w.2);
  }

  -- a stretch with a key
  gathers_pair : (pair : ℕ × ℕ) → ((key : ℕ) → at ≤ key → key < high → HasFound new.view key (value_there (Some pair) key))
      → at ≤ pair.0 → pair.0 < high → pair.0 < upto → Gathers new.view from high upto (pairs ++ pair ∷ [])
  gathers_pair pair there least most real = record {
    found = λ key low less more. elim (cases_lt key at) [
      | inl before ↦
          subst (λ (o : Option ℕ). HasFound new.view key o) (sym (more_elsewhere pairs pair key (λ same. absurd (omega arith))))
          (found_on old new n key (contents_of pairs key) on (g.found key low before more))
      | inr after ↦ subst (λ (o : Option ℕ). HasFound new.view key o) (sym (more_there pairs pair key (apart key after))) (there key after less)
    ];
    ascending = subst IsStrictlyIncreasing (sym keys)
        (ascending_more (keys_of pairs) pair.0 g.ascending (λ k d low. let w = g.within k d low in omega arith));
    within = subst (All (λ key. (from ≤ key) × (key < high) × (key < upto))) (sym keys)
        (All-push (λ key. (from ≤ key) × (key < high) × (key < upto)) (keys_of pairs) pair.0
        (λ k d low. let w = g.within k d low in (w.0, omega arith, w.2)) (omega arith, most, real));
  }
    where
      keys : keys_of (pairs ++ pair ∷ []) ≡ keys_of pairs ++ pair.0 ∷ []
      keys = map_push (λ (e : ℕ × ℕ). e.0) pairs pair

-- the first pairs of a room
abbrev pub gathered : ℕ → List Pair → List (ℕ × ℕ)
gathered count room = map (λ pair. (pair.key, pair.value)) (take count room)

-- how a scan goes on: it has come to this key, and has written so many pairs; the rest of the room is as it was
pub record Scans (plan : TablePlan) (old now : PassModel) (from at upto count : ℕ) (before room : List Pair) : Type 0 where
  pub began : from ≤ at
  pub gathers : Gathers now.view from at upto (gathered count room)
  pub fits : count ≤ length room
  pub long : length room ≡ length before
  pub rest : drop count room ≡ drop count before
  pub own : from < at → ReadsItsOwn now.view
  pub one : now.view.looks ≡ old.view.looks + 1
  pub stretches : Stretches plan (λ key. nat_le key at) (at < upto) old now

module _ (plan : TablePlan) (old now new : PassModel) (from at upto count : ℕ) (before room : List Pair) (s : Scans plan old now from at upto count before room)
    (about : About) (more : at < upto) (real : upto ≤ greatest_key + 1) (finds : FindsAbout plan.last_card new.view at about) (fixed : KeysAreFixed new.view)
    (on : KeepsLooking now new (stretch_steps (deepest plan))) where
  -- a scan's stretch is one more
  one_stretch : Stretches plan (λ key. nat_le key about.high) (about.high < upto) old new
  one_stretch =
      let deeper = finds.within.upto in
      stretches_more plan (λ key. nat_le key at) (λ key. nat_le key about.high) (at < upto) (about.high < upto) old now new s.stretches more on
      (λ key low. let least = leb-true key at low in le-leb key about.high (omega arith)) fixed about.high (ends finds.upper)
      (lt-leb about.high at deeper) (le-leb about.high about.high (omega arith))
    where
      ends : IsUpper plan.last_card new.view about.high → (¬ (about.high < upto)) ⊎ IsNodeKey plan.last_card new.view about.high
      ends (inl last) = inl (λ keeps. absurd (omega arith))
      ends (inr there) = inr there

  -- what it has found of a key of its stretch
  found_here : (key : ℕ) → at ≤ key → key < about.high → HasFound new.view key (value_there about.found key)
  found_here key after less = let low = finds.within.from in finds.found key (omega arith) less

  -- where it writes nothing
  pub scans_past : ((key : ℕ) → at ≤ key → key < upto → value_there about.found key ≡ None) → Scans plan old new from about.high upto count before room
  scans_past nothing = record {
    began = (let began = s.began in let deeper = finds.within.upto in omega arith);
    gathers = gathers_past now new (stretch_steps (deepest plan)) from at about.high upto (gathered count room) s.gathers on s.began finds.within.upto
        (λ key after less most. subst (λ (o : Option ℕ). HasFound new.view key o) (nothing key after most) (found_here key after less));
    fits = s.fits;
    long = s.long;
    rest = s.rest;
    own = λ less. finds.own;
    one = on.looks ∙ s.one;
    stretches = one_stretch;
  }

  -- where it writes a pair
  pub scans_pair : (pair : Pair) → about.found ≡ Some (pair.key, pair.value) → at ≤ pair.key → pair.key < upto → count < length room
      → Scans plan old new from about.high upto (count + 1) before (set room count pair)
  scans_pair pair is least most low = record {
    began = (let began = s.began in let deeper = finds.within.upto in omega arith);
    gathers = subst (λ (pairs : List (ℕ × ℕ)). Gathers new.view from about.high upto pairs) (sym wrote)
        (gathers_pair now new (stretch_steps (deepest plan)) from at about.high upto (gathered count room) s.gathers on s.began finds.within.upto (pair.key, pair.value)
        (λ key after less. subst (λ (o : Option (ℕ × ℕ)). HasFound new.view key (value_there o key)) is (found_here key after less))
        least (inside (subst (λ (o : Option (ℕ × ℕ)). IsWithin about.low about.high o) is finds.pair)) most);
    fits = (let same = length-set room count pair in omega arith);
    long = length-set room count pair ∙ s.long;
    rest = drop-set-lt (count + 1) room count pair (omega arith) ∙ drops;
    own = λ less. finds.own;
    one = on.looks ∙ s.one;
    stretches = one_stretch;
  }
    where
      wrote : gathered (count + 1) (set room count pair) ≡ gathered count room ++ (pair.key, pair.value) ∷ []
      wrote = ap (map (λ (p : Pair). (p.key, p.value))) (take_more_set room count pair low)
          ∙ map_push (λ (p : Pair). (p.key, p.value)) (take count room) pair

      inside : IsWithin about.low about.high (Some (pair.key, pair.value)) → pair.key < about.high
      inside f = f.1

      drops : drop (count + 1) room ≡ drop (count + 1) before
      drops = sym (drop-drop 1 count room) ∙ (ap (drop 1) s.rest ∙ drop-drop 1 count before)

-- how the search for the last key below another goes on: it has come down to this key, and found each key from there on absent
pub record Descends (plan : TablePlan) (old now : PassModel) (below upto : ℕ) : Type 0 where
  pub most : below ≤ upto
  pub found : (key : ℕ) → below ≤ key → key < upto → HasFound now.view key None
  pub one : now.view.looks ≡ old.view.looks + 1
  pub stretches : Stretches plan (λ key. nat_le below key) (0 < below) old now

module _ (plan : TablePlan) (old now new : PassModel) (below upto : ℕ) (d : Descends plan old now below upto) (about : About) (more : 0 < below)
    (finds : FindsAbout plan.last_card new.view (below - 1) about) (fixed : KeysAreFixed new.view) (on : KeepsLooking now new (stretch_steps (deepest plan))) where
  -- its stretch is one more
  pub one_down : Stretches plan (λ key. nat_le about.low key) (0 < about.low) old new
  one_down =
      let least = finds.within.from in
      stretches_more plan (λ key. nat_le below key) (λ key. nat_le about.low key) (0 < below) (0 < about.low) old now new d.stretches more on
      (λ key low. let most = leb-true below key low in le-leb about.low key (omega arith)) fixed about.low (ends finds.lower)
      (lt-leb below about.low (omega arith)) (le-leb about.low about.low (omega arith))
    where
      ends : IsLower plan.last_card new.view about.low → (¬ (0 < about.low)) ⊎ IsNodeKey plan.last_card new.view about.low
      ends (inl first) = inl (λ keeps. absurd (omega arith))
      ends (inr there) = inr there

  -- what it has found of a key of its stretch
  found_down : (key : ℕ) → about.low ≤ key → key < below → HasFound new.view key (value_there about.found key)
  found_down key after less = let high = finds.within.upto in finds.found key after (omega arith)

  -- where none of its keys is present
  pub descends_past : ((key : ℕ) → key < below → value_there about.found key ≡ None) → Descends plan old new about.low upto
  descends_past nothing = record {
    most = (let most = d.most in let least = finds.within.from in omega arith);
    found = λ key low less. elim (cases_lt key below) [
      | inl here ↦ subst (λ (o : Option ℕ). HasFound new.view key o) (nothing key here) (found_down key low here)
      | inr before ↦ found_on now new (stretch_steps (deepest plan)) key None on (d.found key before less)
    ];
    one = on.looks ∙ d.one;
    stretches = one_down;
  }

  -- where one is
  pub descends_pair : (pair : ℕ × ℕ) → about.found ≡ Some pair → pair.0 < below → HasFoundLast new.view upto (Some pair)
  descends_pair pair is low = let most = d.most in (
    omega arith,
    subst (λ (o : Option ℕ). HasFound new.view pair.0 o) (here ∙ ap (λ (b : Bool). if b then Some pair.1 else None) (eq-eqb pair.0 pair.0 refl))
        (found_down pair.0 (least (subst (λ (o : Option (ℕ × ℕ)). IsWithin about.low about.high o) is finds.pair)) low),
    λ key after less. elim (cases_lt key below) [
      | inl inner ↦
          subst (λ (o : Option ℕ). HasFound new.view key o)
          (there key ∙ ap (λ (b : Bool). if b then Some pair.1 else None) (ne_eqb pair.0 key (λ same. absurd (omega arith))))
          (found_down key (let from = least (subst (λ (o : Option (ℕ × ℕ)). IsWithin about.low about.high o) is finds.pair) in omega arith) inner)
      | inr before ↦ found_on now new (stretch_steps (deepest plan)) key None on (d.found key before less)
    ],
  )
    where
      there : (key : ℕ) → value_there about.found key ≡ value_there (Some pair) key
      there key = ap (λ (o : Option (ℕ × ℕ)). value_there o key) is

      here : value_there about.found pair.0 ≡ value_there (Some pair) pair.0
      here = there pair.0

      least : IsWithin about.low about.high (Some pair) → about.low ≤ pair.0
      least f = f.0

-- a stretch that has one key tells of another that it is absent
pub other_absent : (found : Option (ℕ × ℕ)) (pair : ℕ × ℕ) (key : ℕ) → found ≡ Some pair → pair.0 ≢ key → value_there found key ≡ None
other_absent found pair key is other =
    ap (λ (o : Option (ℕ × ℕ)). value_there o key) is ∙ ap (λ (b : Bool). if b then Some pair.1 else None) (ne_eqb pair.0 key other)

-- and one that has none, of each
pub none_there : (found : Option (ℕ × ℕ)) (key : ℕ) → found ≡ None → value_there found key ≡ None
none_there found key is = ap (λ (o : Option (ℕ × ℕ)). value_there o key) is

-- where a scan had room for one pair and wrote none, no key of its range was present
pub next_none : (v : View) (from upto count : ℕ) (next : Option ℕ) (room : List Pair)
    → HaveFound v from (unwrap_or next upto) (contents_of (gathered count room)) → IfSome next (λ n. (from ≤ n) × (n < upto) × (count ≡ 1)) → count ≡ 0
    → HaveFound v from upto (λ key. None)
next_none v from upto count None room found full none = λ key low less.
    subst (λ (n : ℕ). HasFound v key (contents_of (gathered n room) key)) none (found key low less)
next_none v from upto count (Some n) room found full none = λ key low less. absurd (omega (arith, full.2, none))

-- and where it wrote one, that is the first
pub next_pair : (v : View) (from end count : ℕ) (room : List Pair) (d : Pair) → HaveFound v from end (contents_of (gathered count room))
    → AreInOrder from end (gathered count room) → length room ≡ 1 → count ≡ 1
    → HasFoundNext v from (Some ((get_or room 0 d).key, (get_or room 0 d).value))
next_pair v from end count [] d found order long one = absurd (omega arith)
next_pair v from end count (p ∷ q ∷ ps) d found order long one = absurd (omega arith)
next_pair v from end count (p ∷ []) d found order long one = (
  at.0,
  subst (λ (o : Option ℕ). HasFound v p.key o) (lookup_head (λ k. p.key == k) (p.key, p.value) [] (eq-eqb p.key p.key refl)) (here p.key at.0 at.1),
  λ key low less.
      subst (λ (o : Option ℕ). HasFound v key o) (lookup_tail (λ k. key == k) (p.key, p.value) [] (ne_eqb key p.key (λ same. absurd (omega arith))))
      (here key low (let upto = at.1 in omega arith)),
)
  where
    here : HaveFound v from end (contents_of ((p.key, p.value) ∷ []))
    here = subst (λ (n : ℕ). HaveFound v from end (contents_of (gathered n (p ∷ [])))) one found

    at : (from ≤ p.key) × (p.key < end)
    at = let ordered : AreInOrder from end ((p.key, p.value) ∷ []) = subst (λ (n : ℕ). AreInOrder from end (gathered n (p ∷ []))) one order in
        ordered.within 0 0 (omega arith)

-- then it has come by a key
pub next_beyond : (from end count : ℕ) (room : List Pair) → AreInOrder from end (gathered count room) → length room ≡ 1 → count ≡ 1 → from < end
next_beyond from end count [] order long one = absurd (omega arith)
next_beyond from end count (p ∷ q ∷ ps) order long one = absurd (omega arith)
next_beyond from end count (p ∷ []) order long one =
    let ordered : AreInOrder from end ((p.key, p.value) ∷ []) = subst (λ (n : ℕ). AreInOrder from end (gathered n (p ∷ []))) one order in
    let at = ordered.within 0 0 (omega arith) in
    let low = at.0 in
    let less = at.1 in
    omega arith

-- what a look has found of each of these keys was so in one state each
pub each_in : (t : TreeModel) (v : View) (from upto : ℕ) (there : Contents) → HaveFound v from upto there → AreFoundIn t v from upto there
each_in t v from upto there found key low less = looks_are_of_one_state t.plan v key (there key) (found key low less)

-- so it is of the next key and the keys before it
pub next_in : (t : TreeModel) (v : View) (from : ℕ) (there : Option (ℕ × ℕ)) → HasFoundNext v from there → IsNextIn t v from there
next_in t v from None found = each_in t v from (greatest_key + 1) (λ key. None) found
next_in t v from (Some pair) found =
    (found.0, looks_are_of_one_state t.plan v pair.0 (Some pair.1) found.1, each_in t v from pair.0 (λ key. None) found.2)

-- and of the last one and the keys after it
pub last_in : (t : TreeModel) (v : View) (upto : ℕ) (there : Option (ℕ × ℕ)) → HasFoundLast v upto there → IsLastIn t v upto there
last_in t v upto None found = each_in t v 0 upto (λ key. None) found
last_in t v upto (Some pair) found =
    (found.0, looks_are_of_one_state t.plan v pair.0 (Some pair.1) found.1, each_in t v (pair.0 + 1) upto (λ key. None) found.2)

use Rattle.std.proofs.Common.{◌≡◌, ℕ, ◌+◌, ◌*◌, ◌<◌, ◌≤◌, ◌⊎◌, inl, inr, Bool, true, false, nat_le, min, max, if◌then◌else◌, Option, Some, None, List, length, get_or, set, replicate, refl, sym, ap, ◌∙◌, subst, arith, eq-eqb, eqb-true, ◌==◌, get_or-set_other, get_or-set_same}
use Rattle.std.proofs.lemmas.Bool.{cases_eq, cases_lt, false≢true}
use Rattle.std.proofs.lemmas.List.{get_or-replicate, length-replicate, length-set}
use Rattle.std.proofs.Math.Nat.{max-eq_left, max-eq_right, min-eq_left, min-eq_right}
use Rattle.ell_ops.specs.Meaning.{greatest_key}
use Rattle.ell_word.specs.Link.{link_in}
use Rattle.ell_word.specs.Node.{IsInternal}
use Rattle.ell_layout.specs.Words.{IsLeaf}
use Rattle.ell_core.specs.statements.Readers.{from_of, upto_of}
use Rattle.ell_core.proofs.lemmas.following.Stretches.{upto_real}
use Rattle.ell_core.proofs.lemmas.runs.Stretches.{key_from, key_upto}
use Rattle.ell_runs.specs.declared.glance.Glance.{Glance}
use Rattle.ell_runs.specs.declared.glance.Stretch.{Stretch}
use Rattle.ell_runs.specs.declared.view.Told.TheVariants.{Met, Key, Value}
use Rattle.ell_runs.specs.declared.view.View.{View}
use Rattle.ell_runs.proofs.lemmas.views.Afters.{after_look, after_look_down, after_key_of, after_value_of}
use Rattle.ell_runs.specs.Guards.{MayLookDown, TellsOf}
use Rattle.ell_runs.specs.Looking.{HasFound, HasFoundBetween, TellsBetween, ReadsItsOwn, MissesItsOwn}
use Rattle.ell_runs.specs.declared.view.Slots.{Slots}
use Rattle.ell_cards.specs.Models.{PassModel, Counts, Sees, LooksBy}
use Rattle.ell_runs.specs.Views.{Has, HasCome, HasComeWhole, latest, earlier, IsTold, InTable}
use Rattle.ell_cards.proofs.lemmas.views.Steps.{view_seen}
use Rattle.ell_runs.specs.LookPlaces.{SawLookBegin, SeesMoreInLook}
use Rattle.ell_cards.specs.Models.{SeesInLook}
use Rattle.ell_runs.specs.Seeing.{SeesLook}
use Rattle.ell_tree.proofs.lemmas.LookPlaces.{in_look_none, in_look_trans, saw_begin}
use Rattle.ell_tree.specs.Counts.{HasUncounted}
use Rattle.ell_tree.proofs.lemmas.Counts.{look_uncounted}
use Rattle.ell_tree.specs.declared.cursor.About.{About}
use Rattle.ell_tree.specs.declared.cursor.Cursor.{Cursor}
use Rattle.ell_tree.specs.Cursors.{AreKept, BeginsALook, FindsAbout, IsAmong, MayGoOnFrom, kept_at, IsLower, IsNodeKey, IsUpper, KeepsLooking, IsWithin, TellsOfLeaf}
use Rattle.ell_tree.specs.Ledgers.{present_in}
use Rattle.ell_tree.specs.Looks.{stretch_steps}
use Rattle.ell_tree.specs.Scans.{TellsItsOwn, value_there}
use Rattle.ell_tree.proofs.lemmas.Looks.{come_part, whole_part, reads_mine, misses_mine, only_trans, only_none_yet, look_only, down_only, key_only, value_only, key_tells, value_tells, only_counted, view_looked}
use Rattle.ell_runs.specs.Changes.{forgotten}
use Rattle.ell_runs.specs.Depths.{depth_of, IsShallow}
use Rattle.ell_runs.proofs.lemmas.views.Depths.{depth_more, met_more, went_deeper}

-- a look that goes on, and on
pub on_trans : (a b c : PassModel) (m n k : ℕ) → KeepsLooking a b m → KeepsLooking b c n → m + n ≤ k → KeepsLooking a c k
on_trans a b c m n k h h' le = record {
  only = only_trans a b c m n k h.only h'.only le;
  told = λ e t. h'.told e (h.told e t);
  glances = λ g has. h'.glances g (h.glances g has);
  looks = h'.looks ∙ h.looks;
  sees = in_look_trans a.sight b.sight c.sight h.sees h'.sees;
}

pub on_none : (a : PassModel) → KeepsLooking a a 0
on_none a = record { only = only_none_yet a; told = λ e t. t; glances = λ g has. has; looks = refl; sees = in_look_none a.sight }

pub on_more : (a b : PassModel) (m n : ℕ) → m ≤ n → KeepsLooking a b m → KeepsLooking a b n
on_more a b m n le h = on_trans a b b m 0 n h (on_none b) (omega arith)

pub key_on : (old new : PassModel) (x k : ℕ) → SeesInLook old new (after_key_of x k old.view) → KeepsLooking old new 1
key_on old new x k s =
    let view = view_looked old new (after_key_of x k old.view) s in
    record {
      only = key_only old new x k s;
      told = key_tells old new x k s;
      sees = s.sees;
      glances = λ g has. subst (λ (v : View). Has v.glances g) (sym view) has;
      looks = ap (λ (v : View). v.looks) view;
    }

pub value_on : (old new : PassModel) (x value : ℕ) → SeesInLook old new (after_value_of x value old.view) → KeepsLooking old new 1
value_on old new x value s =
    let view = view_looked old new (after_value_of x value old.view) s in
    record {
      only = value_only old new x value s;
      told = value_tells old new x value s;
      sees = s.sees;
      glances = λ g has. subst (λ (v : View). Has v.glances g) (sym view) has;
      looks = ap (λ (v : View). v.looks) view;
    }

pub down_on : (old new : PassModel) (from : Glance) (to : Stretch) (right : Bool) (n : ℕ) → Sees old new (after_look_down from to right n old.view) → KeepsLooking old new 1
down_on old new from to right n s =
    let view = view_seen old new (after_look_down from to right n old.view) s in
    record {
      only = down_only old new from to right n s;
      sees = subst (SeesMoreInLook old.sight) (sym (ap (λ (m : PassModel). m.sight) s)) (in_look_none old.sight);
      told = λ e h. subst (λ (v : View). IsTold v e) (sym view) (met_more _ _ _ e h);
      glances = λ g has. subst (λ (v : View). Has v.glances g) (sym view) (earlier g _ old.view.glances has);
      looks = ap (λ (v : View). v.looks) view;
    }

-- a look that goes on, whose steps are counted at its end
pub on_counted : (a b c : PassModel) (n k : ℕ) → KeepsLooking a b n → HasUncounted a b k → Counts b c k → KeepsLooking a c n
on_counted a b c n k h u s =
    let view = ap (λ (m : PassModel). m.view) s in
    record {
      only = only_counted a b c n k h.only u s;
      sees = subst (SeesMoreInLook a.sight) (sym (ap (λ (m : PassModel). m.sight) s)) h.sees;
      told = λ e t. subst (λ (v : View). IsTold v e) (sym view) (h.told e t);
      glances = λ g has. subst (λ (v : View). Has v.glances g) (sym view) (h.glances g has);
      looks = ap (λ (v : View). v.looks) view ∙ h.looks;
    }

-- the key of a node stays told
node_key_on : (cards : ℕ) (p q : PassModel) (n key : ℕ) → KeepsLooking p q n → IsNodeKey cards p.view key → IsNodeKey cards q.view key
node_key_on cards p q n key h k =
    record { node = k.node; inner = k.inner; there = k.there; below = k.below; told = h.told (Key k.node key) k.told }

pub lower_on : (cards : ℕ) (p q : PassModel) (n low : ℕ) → KeepsLooking p q n → IsLower cards p.view low → IsLower cards q.view low
lower_on cards p q n low h l = elim l [ inl e ↦ inl e | inr k ↦ inr (node_key_on cards p q n low h k) ]

pub upper_on : (cards : ℕ) (p q : PassModel) (n high : ℕ) → KeepsLooking p q n → IsUpper cards p.view high → IsUpper cards q.view high
upper_on cards p q n high h u = elim u [ inl e ↦ inl e | inr k ↦ inr (node_key_on cards p q n high h k) ]

-- what a look has come to it has come to
abbrev pub come_on : (p q : PassModel) (n x low high : ℕ) → KeepsLooking p q n → HasCome p.view x low high → HasCome q.view x low high
come_on p q n x low high h c =
    record { glance = c.glance; among = h.glances c.glance c.among; there = c.there; from = c.from; upto = c.upto }

pub kept_on : (cards : ℕ) (p q : PassModel) (n : ℕ) (g : Glance) → KeepsLooking p q n → MayGoOnFrom cards p.view g → MayGoOnFrom cards q.view g
kept_on cards p q n g h k = record {
  come = come_on p q n g.node g.low g.high h k.come;
  met = h.told (Met g.node) k.met;
  there = k.there;
  below = k.below;
  deep = (let deep = k.deep in let more = depth_more p.view.told q.view.told h.told g.node in omega arith);
  lower = lower_on cards p q n g.low h k.lower;
  upper = upper_on cards p q n g.high h k.upper;
  real = k.real;
  apart = k.apart;
}

pub all_on : (cards : ℕ) (p q : PassModel) (n : ℕ) (c : Cursor) → KeepsLooking p q n → AreKept cards p.view c → AreKept cards q.view c
all_on cards p q n c h k = record {
  many = k.many;
  first = kept_on cards p q n c.first h k.first;
  least = k.least;
  most = k.most;
  each = λ i less. kept_on cards p q n (kept_at c i) h (k.each i less);
}

-- a look begins at a node to which all real keys come
pub begins_look : (slots : Option Slots) (old seen new : PassModel) (n : ℕ) → LooksBy slots old seen (after_look n old.view) → SeesLook old.sight seen.sight → Counts seen new 1 → BeginsALook old new
begins_look slots old seen new n s looks counts = let view : seen.view ≡ after_look n old.view = ap (λ (m : PassModel). m.view) s in record {
  only = only_counted old seen new 1 1 (look_only slots old seen n s looks) (look_uncounted slots old seen (after_look n old.view) s refl) counts;
  one = ap (λ (m : PassModel). m.view.looks) counts ∙ ap (λ (v : View). v.looks) view;
  saw = subst (SawLookBegin old.sight) (sym (ap (λ (m : PassModel). m.sight) counts)) (saw_begin old.sight seen.sight looks);
}

pub first_kept : (slots : Option Slots) (cards : ℕ) (old new : PassModel) (n child : ℕ) → (link_in n).node ≡ child → LooksBy slots old new (after_look n old.view) → 0 < child → InTable cards child
    → MayGoOnFrom cards new.view (record { node = child; low = 0; high = greatest_key + 1; whole = false })
first_kept slots cards old new n child says s low there =
    let view : new.view ≡ after_look n old.view = ap (λ (m : PassModel). m.view) s in
    let g : Glance = record { node = (link_in n).node; low = 0; high = greatest_key + 1; whole = true } in
    record {
      come = subst (λ (v : View). HasCome v child 0 (greatest_key + 1)) (sym view)
          (record { glance = g; among = latest _ _; there = says; from = omega arith; upto = omega arith });
      met = subst (λ x. IsTold new.view (Met x)) says (subst (λ (v : View). IsTold v (Met (link_in n).node)) (sym view) (latest _ _));
      there = there;
      below = low;
      deep = (let deep = went_deeper (record (old.view) { told = forgotten }) new.view (after_look n old.view) 0 (link_in n).node child view says refl in omega arith);
      lower = inl refl;
      upper = inl refl;
      real = omega arith;
      apart = refl;
    }

abbrev nowhere : Glance
nowhere = record { node = 0; low = 0; high = 0; whole = false }

pub begin_kept : (cards : ℕ) (v : View) (c : Cursor) (g : Glance) → c.first ≡ g → c.kept ≡ replicate 32 g → g.low ≡ 0 → g.high ≡ greatest_key + 1
    → MayGoOnFrom cards v g → AreKept cards v c
begin_kept cards v c g first each least most k = record {
  many = ap (λ (l : List Glance). length l) each ∙ length-replicate 32 g;
  first = subst (MayGoOnFrom cards v) (sym first) k;
  least = ap (λ (h : Glance). h.low) first ∙ least;
  most = ap (λ (h : Glance). h.high) first ∙ most;
  each = λ i less. subst (MayGoOnFrom cards v)
      (sym (get_or-replicate 32 i g nowhere less) ∙ ap (λ l. get_or l i nowhere) (sym each)) k;
}

-- one of those from which a look may go on is one
pub among_kept : (cards : ℕ) (v : View) (c : Cursor) (g : Glance) → AreKept cards v c → IsAmong c g → MayGoOnFrom cards v g
among_kept cards v c g k (inl e) = subst (MayGoOnFrom cards v) (sym e) k.first
among_kept cards v c g k (inr h) = subst (MayGoOnFrom cards v) (sym h.2) (k.each h.0 h.1)

-- a cursor that keeps the same, or one more in the place of another
pub same_kept : (cards : ℕ) (v : View) (c d : Cursor) → d.first ≡ c.first → d.kept ≡ c.kept → AreKept cards v c → AreKept cards v d
same_kept cards v c d first each k = record {
  many = ap (λ (l : List Glance). length l) each ∙ k.many;
  first = subst (MayGoOnFrom cards v) (sym first) k.first;
  least = ap (λ (h : Glance). h.low) first ∙ k.least;
  most = ap (λ (h : Glance). h.high) first ∙ k.most;
  each = λ i less. subst (MayGoOnFrom cards v) (sym (ap (λ l. get_or l i nowhere) each)) (k.each i less);
}

pub one_kept : (cards : ℕ) (v : View) (c d : Cursor) (j : ℕ) (g : Glance) → j < 32 → d.first ≡ c.first → d.kept ≡ set c.kept j g → MayGoOnFrom cards v g → AreKept cards v c
    → AreKept cards v d
one_kept cards v c d j g room first each new k = record {
  many = ap (λ (l : List Glance). length l) each ∙ (length-set c.kept j g ∙ k.many);
  first = subst (MayGoOnFrom cards v) (sym first) k.first;
  least = ap (λ (h : Glance). h.low) first ∙ k.least;
  most = ap (λ (h : Glance). h.high) first ∙ k.most;
  each = λ i less. subst (MayGoOnFrom cards v) (sym (ap (λ l. get_or l i nowhere) each)) (at i less);
}
  where
    at : (i : ℕ) → i < 32 → MayGoOnFrom cards v (get_or (set c.kept j g) i nowhere)
    at i less = elim (cases_eq i j) [
      | inl e ↦
          let there : j < length c.kept = subst (λ n. j < n) (sym k.many) room in
          subst (MayGoOnFrom cards v) (sym (ap (λ n. get_or (set c.kept j g) n nowhere) e ∙ (rw get_or-set_same refl))) new
      | inr other ↦ subst (MayGoOnFrom cards v) (sym (rw get_or-set_other refl)) (k.each i less)
    ]

-- a look has come to a node by a key and others, from one from which it went on, in at most two steps for each internal node that there is down to it
pub record GoesDown (cards : ℕ) (old new : PassModel) (key : ℕ) (here : Glance) (cursor : Cursor) : Type 0 where
  pub count : ℕ
  pub on : KeepsLooking old new count
  pub few : count + 2 ≤ 2 * depth_of new.view here.node
  pub stands : MayGoOnFrom cards new.view here
  pub from : here.low ≤ key
  pub upto : key < here.high
  pub kept : AreKept cards new.view cursor

pub keeps_first : (cards : ℕ) (old : PassModel) (key : ℕ) (here : Glance) (c d : Cursor) → AreKept cards old.view c → IsAmong c here → here.low ≤ key → key < here.high
    → d.first ≡ c.first → d.kept ≡ c.kept → GoesDown cards old old key here d
keeps_first cards old key here c d kept among from upto first same =
    let stands = among_kept cards old.view c here kept among in
    record {
      count = 0;
      on = on_none old;
      few = (let deep = stands.deep in omega arith);
      stands = stands;
      from = from;
      upto = upto;
      kept = same_kept cards old.view c d first same kept;
    }

-- a stretch begins at the key of a node where it did, or where the node's key is, and so it ends
lower_max : (cards : ℕ) (v : View) (low k : ℕ) → IsLower cards v low → IsNodeKey cards v k → IsLower cards v (max low k)
lower_max cards v low k l n = elim (cases_lt low k) [
  | inl less ↦ subst (IsLower cards v) (sym (max-eq_right {n = low} {m = k} (omega arith))) (inr n)
  | inr most ↦ subst (IsLower cards v) (sym (max-eq_left {n = low} {m = k} most)) l
]

upper_min : (cards : ℕ) (v : View) (high k : ℕ) → IsUpper cards v high → IsNodeKey cards v k → IsUpper cards v (min high k)
upper_min cards v high k u n = elim (cases_lt high k) [
  | inl less ↦ subst (IsUpper cards v) (sym (min-eq_left {n = high} {m = k} (omega arith))) u
  | inr most ↦ subst (IsUpper cards v) (sym (min-eq_right {n = k} {m = high} most)) (inr n)
]

lower_down : (right : Bool) (cards : ℕ) (v : View) (low k : ℕ) → IsLower cards v low → IsNodeKey cards v k → IsLower cards v (from_of right low k)
lower_down true cards v low k l n = lower_max cards v low k l n
lower_down false cards v low k l n = l

upper_down : (right : Bool) (cards : ℕ) (v : View) (high k : ℕ) → IsUpper cards v high → IsNodeKey cards v k → IsUpper cards v (upto_of right high k)
upper_down true cards v high k u n = u
upper_down false cards v high k u n = upper_min cards v high k u n

module _ (cards : ℕ) (old a b : PassModel) (key : ℕ) (here : Glance) (cursor : Cursor) (k : ℕ) (at : GoesDown cards old a key here cursor)
    (asked : SeesInLook a b (after_key_of here.node k a.view)) where
  asked_view : b.view ≡ after_key_of here.node k a.view
  asked_view = view_looked a b (after_key_of here.node k a.view) asked

  told_key : IsTold b.view (Key here.node k)
  told_key = subst (λ (v : View). IsTold v (Key here.node k)) (sym asked_view) (latest (Key here.node k) a.view.told)

  asked_on : KeepsLooking a b 1
  asked_on = key_on a b here.node k asked

  pub stands_still : MayGoOnFrom cards b.view here
  stands_still = kept_on cards a b 1 here asked_on at.stands

  pub kept_still : AreKept cards b.view cursor
  kept_still = all_on cards a b 1 cursor asked_on at.kept

  -- by the keys that go to a side it may go on
  pub may_go_down : (from : ℕ) (to : Stretch) (right : Bool) → IsInternal here.node → to.low ≡ from_of right here.low k → to.high ≡ upto_of right here.high k → to.whole ≡ false
      → MayLookDown from b.view here to right
  may_go_down from to right inner low high apart = record {
    come = stands_still.come;
    as_one = λ whole. absurd (false≢true (sym stands_still.apart ∙ whole));
    met = stands_still.met;
    inner = inner;
    key = k;
    told = told_key;
    goes = record { low = omega arith; high = omega arith; whole = λ whole. absurd (false≢true (sym apart ∙ whole)) };
  }

  -- the child to which it goes down is deeper
  pub child_deeper : (d : PassModel) (to : Stretch) (right : Bool) (n child : ℕ) → (link_in n).node ≡ child → Sees b d (after_look_down here to right n b.view)
      → depth_of a.view here.node < depth_of d.view child
  child_deeper d to right n child says s =
      let after = after_look_down here to right n b.view in
      let still = depth_more a.view.told b.view.told asked_on.told here.node in
      let deep = went_deeper b.view d.view after here.node (link_in n).node child (view_seen b d after s) says refl in
      omega arith

  pub goes_down : (d : PassModel) (to : Stretch) (right : Bool) (n child : ℕ) (after : Cursor) → (link_in n).node ≡ child → Sees b d (after_look_down here to right n b.view)
      → IsInternal here.node → 0 < child → InTable cards child → right ≡ nat_le k key → to.low ≡ from_of right here.low k → to.high ≡ upto_of right here.high k
      → to.whole ≡ false → AreKept cards b.view after → GoesDown cards old d key (record { node = child; low = to.low; high = to.high; whole = to.whole }) after
  goes_down d to right n child after says s inner low there side first last apart kept =
      let view = view_seen b d (after_look_down here to right n b.view) s in
      let on = down_on b d here to right n s in
      let deep = child_deeper d to right n child says s in
      let is : IsNodeKey cards d.view k = record { node = here.node; inner = inner; there = at.stands.there; below = at.stands.below; told = on.told (Key here.node k) told_key } in
      record {
        count = at.count + 2;
        on = on_trans old a d at.count 2 (at.count + 2) at.on (on_trans a b d 1 1 2 asked_on on (omega arith)) (omega arith);
        few = (let few = at.few in omega arith);
        stands = record {
          come = subst (λ (v : View). HasCome v child to.low to.high) (sym view)
              (record { glance = record { node = (link_in n).node; low = to.low; high = to.high; whole = to.whole }; among = latest _ _; there = says; from = omega arith; upto = omega arith });
          met = subst (λ x. IsTold d.view (Met x)) says (subst (λ (v : View). IsTold v (Met (link_in n).node)) (sym view) (latest _ _));
          there = there;
          below = low;
          deep = omega arith;
          lower = subst (IsLower cards d.view) (sym first) (lower_down right cards d.view here.low k (lower_on cards b d 1 here.low on stands_still.lower) is);
          upper = subst (IsUpper cards d.view) (sym last) (upper_down right cards d.view here.high k (upper_on cards b d 1 here.high on stands_still.upper) is);
          real = (let most = upto_real right here.high k (greatest_key + 1) at.stands.real in omega arith);
          apart = apart;
        };
        from = (let low_on = subst (λ r. from_of r here.low k ≤ key) (sym side) (key_from k here.low key at.from) in omega arith);
        upto = (let high_on = subst (λ r. key < upto_of r here.high k) (sym side) (key_upto k here.high key at.upto) in omega arith);
        kept = all_on cards b d 1 after on kept;
      }

-- who asks the key of a node was told no depth of it
pub asked_shallow : (most : ℕ) (a b : PassModel) (x k : ℕ) → SeesInLook a b (after_key_of x k a.view) → IsShallow most b.view x → IsShallow most a.view x
asked_shallow most a b x k asked h =
    let same = ap (λ (v : View). depth_of v x) (view_looked a b (after_key_of x k a.view) asked) in
    record { inner = λ inner. (let low = h.inner inner in omega arith); any = let low = h.any in omega arith }

-- what is found at a leaf
module _ (from : ℕ) (a b : PassModel) (leaf : Glance) (k : ℕ) (outer : IsLeaf leaf.node) (asked : SeesInLook a b (after_key_of leaf.node k a.view)) where
  key_told : IsTold b.view (Key leaf.node k)
  key_told = subst (λ (v : View). IsTold v (Key leaf.node k)) (sym (view_looked a b (after_key_of leaf.node k a.view) asked)) (latest (Key leaf.node k) a.view.told)

  pub tells_none : (k < leaf.low) ⊎ (leaf.high ≤ k) → TellsOfLeaf from b.view leaf.node (record { low = leaf.low; high = leaf.high; found = None })
  tells_none out = record { key = k; outer = outer; told = key_told; tells = inl (outer, out) }

  pub tells_one : (d : PassModel) (value : ℕ) → SeesInLook b d (after_value_of leaf.node value b.view) → leaf.low ≤ k → k < leaf.high
      → TellsOfLeaf from d.view leaf.node (record { low = leaf.low; high = leaf.high; found = Some (k, value) })
  tells_one d value s low high = record {
    key = k;
    outer = outer;
    told = (value_on b d leaf.node value s).told (Key leaf.node k) key_told;
    tells = (
      outer,
      refl,
      low,
      high,
      subst (λ (v : View). IsTold v (Value leaf.node value)) (sym (view_looked b d (after_value_of leaf.node value b.view) s))
          (latest (Value leaf.node value) b.view.told),
    );
  }

-- a stretch is found in at most so many steps
pub keeps_found : (cards most : ℕ) (old a b : PassModel) (key : ℕ) (here : Glance) (cursor : Cursor) → GoesDown cards old a key here cursor → IsShallow most a.view here.node
    → KeepsLooking a b 2 → KeepsLooking old b (stretch_steps most)
keeps_found cards most old a b key here cursor at shallow on =
    on_trans old a b at.count 2 (stretch_steps most) at.on on (let few = at.few in let room = shallow.any in omega arith)

-- what a leaf tells of a stretch it tells of each key of it
leaf_tells : (from : ℕ) (v : View) (leaf leaf_key low high key : ℕ) (there : Option (ℕ × ℕ)) → IsLeaf leaf → TellsBetween from v leaf leaf_key low high there
    → low ≤ key → key < high → TellsOf v leaf leaf_key key (value_there there key)
leaf_tells from v leaf leaf_key low high key None outer tells a b = λ same. elim tells [
  | inl at ↦ elim at.1 [ inl less ↦ absurd (omega arith) | inr more ↦ absurd (omega arith) ]
  | inr edge ↦ absurd (outer edge.0)
]
leaf_tells from v leaf leaf_key low high key (Some pair) outer tells a b = one (pair.0 == key) refl
  where
    one : (b : Bool) → (pair.0 == key) ≡ b → TellsOf v leaf leaf_key key (if b then Some pair.1 else None)
    one true is = (tells.1 ∙ eqb-true pair.0 key is, tells.4)
    one false is = λ e. absurd (false≢true (sym is ∙ eq-eqb pair.0 key (sym tells.1 ∙ e)))

pub found_of_key : (from : ℕ) (v : View) (leaf : ℕ) (about : About) (key : ℕ) → TellsOfLeaf from v leaf about → HasCome v leaf about.low about.high
    → about.low ≤ key → key < about.high → HasFound v key (value_there about.found key)
found_of_key from v leaf about key f come low high = record {
  leaf = leaf;
  leaf_key = f.key;
  comes = come_part v leaf about.low about.high key (key + 1) low (omega arith) come;
  outer = f.outer;
  told = f.told;
  tells = leaf_tells from v leaf f.key about.low about.high key about.found f.outer f.tells low high;
}

-- what a look has found about a key
pub finds_about : (cards from : ℕ) (v : View) (key : ℕ) (leaf : Glance) (about : About) → TellsOfLeaf from v leaf.node about → about.low ≡ leaf.low → about.high ≡ leaf.high
    → MayGoOnFrom cards v leaf → leaf.low ≤ key → key < leaf.high → ReadsItsOwn v → FindsAbout cards v key about
finds_about cards from v key leaf about f low high stands least most own = record {
  within = record { from = omega arith; upto = omega arith; real = (let real = stands.real in omega arith) };
  found = λ k a b. found_of_key from v leaf.node about k f (come_part v leaf.node leaf.low leaf.high about.low about.high (omega arith) (omega arith) stands.come) a b;
  pair = within about.found f.tells;
  lower = subst (IsLower cards v) (sym low) stands.lower;
  upper = subst (IsUpper cards v) (sym high) stands.upper;
  own = own;
}
  where
    within : (o : Option (ℕ × ℕ)) → TellsBetween from v leaf.node f.key about.low about.high o → IsWithin about.low about.high o
    within None tells = tt
    within (Some pair) tells = (tells.2, tells.3)

-- and what it has found of a stretch as one
pub found_between : (from : ℕ) (v : View) (leaf : Glance) (about : About) → TellsOfLeaf from v leaf.node about → about.low ≡ leaf.low → about.high ≡ leaf.high
    → HasComeWhole v leaf.node leaf.low leaf.high → HasFoundBetween from v about.low about.high about.found
found_between from v leaf about f low high come = record {
  node = leaf.node;
  node_key = f.key;
  comes = whole_part v leaf.node leaf.low leaf.high about.low about.high (omega arith) (omega arith) come;
  told = f.told;
  tells = f.tells;
}

-- of the pass's own keys in a stretch it has found what the pass has
pub about_mine : (from : ℕ) (old new : PassModel) (about : About) → HasFoundBetween from new.view about.low about.high about.found → ReadsItsOwn new.view
    → MissesItsOwn from new.view → new.view.worker ≡ old.view.worker → TellsItsOwn old about.low about.high (value_there about.found)
about_mine from old new about f own missed same key a b owns = by about.found f.tells
  where
    come : HasCome new.view f.node key (key + 1)
    come = let c = f.comes.come in let low = c.from in let high = c.upto in
        record { glance = c.glance; among = c.among; there = c.there; from = omega arith; upto = omega arith }

    at_leaf : (o : Option (ℕ × ℕ)) → IsLeaf f.node → TellsBetween from new.view f.node f.node_key about.low about.high o
        → value_there o key ≡ present_in old key
    at_leaf o outer tells = reads_mine old new key (value_there o key) own
        (record {
          leaf = f.node;
          leaf_key = f.node_key;
          comes = come;
          outer = outer;
          told = f.told;
          tells = leaf_tells from new.view f.node f.node_key about.low about.high key o outer tells a b;
        }) same owns

    by : (o : Option (ℕ × ℕ)) → TellsBetween from new.view f.node f.node_key about.low about.high o → value_there o key ≡ present_in old key
    by None (inl leaf) = at_leaf None leaf.0 (inl leaf)
    by None (inr edge) = misses_mine from old new key missed
        (record {
          node = f.node;
          node_key = f.node_key;
          comes = come;
          told = f.told;
          lacks = (edge.0, edge.1, λ k low high. edge.2 k (omega arith) (omega arith));
        }) same owns
    by (Some pair) tells = at_leaf (Some pair) tells.0 tells

use Rattle.std.proofs.Common.{◌≡◌, ◌≢◌, ℕ, zero, suc, ◌≤◌, ◌⊎◌, List, [], ◌∷◌, take, inl, inr, refl, sym, ap, ap₂, ◌∙◌, subst, arith}
use Rattle.std.proofs.lemmas.Bool.{cases_lt}
use mathlib.Core.Option.{some, some-injective, some-ne-none}
use lib.ListN.{get_elem?}
use Rattle.ell_ops.specs.Contents.{Contents}
use Rattle.ell_ops.specs.Meaning.{reply_of, after, replies, final}
use Rattle.ell_runs.specs.Linearizing.{Item, ops_of, replies_of}

-- an item with its point: the number of turns before it, and before what follows it
pub record Placed : Type 0 where
  pub item : Item
  pub at : ℕ
  pub past : ℕ

abbrev pub items_of : List Placed → List Item
items_of [] = []
items_of (x ∷ xs) = x.item ∷ items_of xs

-- a list has this
abbrev pub In : Placed → List Placed → Type 0
In x [] = ⊥
In x (y ∷ ys) = (x ≡ y) ⊎ In x ys

-- no two of a list are one call
abbrev pub AreApart : List Placed → Type 0
AreApart [] = Unit {0}
AreApart (x ∷ xs) = ((y : Placed) → In y xs → x.item.begin ≢ y.item.begin) × AreApart xs

-- the map stays as it is from one state to another
pub record Stays (map : ℕ → Contents) (first last : ℕ) : Type 0 where
  pub up : first ≤ last
  pub same : (p : ℕ) → first ≤ p → p ≤ last → map p ≡ map first

-- the reply of an item is that of the map at its point, and its operation leads to the map that follows
pub record IsRight (map : ℕ → Contents) (x : Placed) : Type 0 where
  pub says : x.item.reply ≡ reply_of x.item.op (map x.at)
  pub goes : after x.item.op (map x.at) ≡ map x.past
  pub up : x.at ≤ x.past
  pub near : x.past ≤ suc x.at

-- so are those of a list, one after the other, and no other turn changes the map
abbrev pub AreRight : (ℕ → Contents) → ℕ → ℕ → List Placed → Type 0
AreRight map last first [] = Stays map first last
AreRight map last first (x ∷ xs) = Stays map first x.at × IsRight map x × AreRight map last x.past xs

pub in_at : (xs : List Placed) (i : ℕ) (x : Placed) → get_elem? xs i ≡ some x → In x xs
in_at [] i x e = absurd (some-ne-none x (sym e))
in_at (y ∷ ys) zero x e = inl (sym (some-injective y x e))
in_at (y ∷ ys) (suc i) x e = inr (in_at ys i x e)

module _ (map : ℕ → Contents) (last : ℕ) where
  -- one thread replies so
  pub right_replies : (first : ℕ) (xs : List Placed) → AreRight map last first xs → replies_of (items_of xs) ≡ replies (map first) (ops_of (items_of xs))
  right_replies first [] h = refl
  right_replies first (x ∷ xs) h =
      let same = h.0.same x.at h.0.up (omega arith) in
      ap₂ (λ a b. a ∷ b) (h.1.says ∙ ap (reply_of x.item.op) same)
      (right_replies x.past xs h.2 ∙ ap (λ m. replies m (ops_of (items_of xs))) (sym h.1.goes ∙ ap (after x.item.op) same))

  -- and leaves this
  pub right_leaves : (first : ℕ) (xs : List Placed) → AreRight map last first xs → final (map first) (ops_of (items_of xs)) ≡ map last
  right_leaves first [] h = sym (h.same last h.up (omega arith))
  right_leaves first (x ∷ xs) h =
      let same = h.0.same x.at h.0.up (omega arith) in
      ap (λ m. final m (ops_of (items_of xs))) (sym (ap (after x.item.op) same) ∙ h.1.goes) ∙ right_leaves x.past xs h.2

  -- the map at the point of each is what those before it leave
  pub right_map : (first : ℕ) (xs : List Placed) → AreRight map last first xs → (k : ℕ) (x : Placed) → get_elem? xs k ≡ some x
      → map x.at ≡ final (map first) (ops_of (take k (items_of xs)))
  right_map first [] h k x e = absurd (some-ne-none x (sym e))
  right_map first (y ∷ ys) h zero x e = ap (λ (z : Placed). map z.at) (sym (some-injective y x e)) ∙ h.0.same y.at h.0.up (omega arith)
  right_map first (y ∷ ys) h (suc k) x e =
      let same = h.0.same y.at h.0.up (omega arith) in
      right_map y.past ys h.2 k x e ∙ ap (λ m. final m (ops_of (take k (items_of ys)))) (sym h.1.goes ∙ ap (after y.item.op) same)

  stays_from : (first mid : ℕ) → Stays map first last → first ≤ mid → mid ≤ last → Stays map mid last
  stays_from first mid h low high = record {
    up = high;
    same = λ p a b. h.same p (omega arith) b ∙ sym (h.same mid low high);
  }

  -- from one to the next, and on
  chain : (a b c : ℕ) → Stays map a b → Stays map b c → Stays map a c
  chain a b c h k = record {
    up = (let x = h.up in let y = k.up in omega arith);
    same = λ p low high. elim (cases_lt b p) [
      | inl less ↦ k.same p (omega arith) high ∙ h.same b h.up (omega arith)
      | inr most ↦ h.same p low most
    ];
  }

  -- what is right from a state on is from an earlier one with that map
  pub lower : (first mid : ℕ) (xs : List Placed) → Stays map first mid → AreRight map last mid xs → AreRight map last first xs
  lower first mid [] h rest = chain first mid last h rest
  lower first mid (x ∷ xs) h rest = (chain first mid x.at h rest.0, rest.1, rest.2)

  -- a list with one more item
  record Inserted (first : ℕ) (x : Placed) (xs : List Placed) : Type 0 where
    list : List Placed
    right : AreRight map last first list
    has : In x list
    keeps : (y : Placed) → In y xs → In y list
    all : (y : Placed) → In y list → (y ≡ x) ⊎ In y xs
    apart : AreApart xs → ((y : Placed) → In y xs → x.item.begin ≢ y.item.begin) → AreApart list

  -- before all others
  ahead : (first : ℕ) (x : Placed) (xs : List Placed) → AreRight map last first (x ∷ xs) → Inserted first x xs
  ahead first x xs h = record {
    list = x ∷ xs;
    right = h;
    has = inl refl;
    keeps = λ y i. inr i;
    all = λ y i. i;
    apart = λ a n. (n, a);
  }

  -- a call that leaves the map has its place
  insert : (first : ℕ) (x : Placed) (xs : List Placed) → IsRight map x → x.past ≡ x.at → first ≤ x.at → x.at ≤ last → AreRight map last first xs → Inserted first x xs
  insert first x [] right reads low high h = ahead first x [] (
    record { up = low; same = λ p a b. h.same p a (omega arith) },
    right,
    subst (λ n. Stays map n last) (sym reads) (stays_from first x.at h low high),
  )
  insert first x (y ∷ ys) right reads low high h = elim (cases_lt y.at x.at) [
    | inl less ↦
        let near = h.1.near in
        let rest = insert y.past x ys right reads (omega arith) high h.2 in record {
          list = y ∷ rest.list;
          right = (h.0, h.1, rest.right);
          has = inr rest.has;
          keeps = λ z i. elim i [ inl e ↦ inl e | inr j ↦ inr (rest.keeps z j) ];
          all = λ z i. elim i [
            | inl e ↦ inr (inl e)
            | inr j ↦ elim (rest.all z j) [ inl e ↦ inl e | inr k ↦ inr (inr k) ]
          ];
          apart = λ a n. (
            λ z i e. elim (rest.all z i) [
              | inl is ↦ n y (inl refl) (sym (e ∙ ap (λ (p : Placed). p.item.begin) is))
              | inr j ↦ a.0 z j e
            ],
            rest.apart a.1 (λ z i. n z (inr i)),
          );
        }
    | inr most ↦ ahead first x (y ∷ ys) (
      record { up = low; same = λ p a b. h.0.same p a (omega arith) },
      right,
      (
        subst (λ n. Stays map n y.at) (sym reads) (record {
          up = most;
          same = λ p a b. h.0.same p (omega arith) b ∙ sym (h.0.same x.at low most);
        }),
        h.1,
        h.2,
      ),
    )
  ]

  -- what a call may be that leaves the map
  pub record Reads (x : Placed) : Type 0 where
    pub right : IsRight map x
    pub reads : x.past ≡ x.at
    pub high : x.at ≤ last

  -- calls that leave the map, each in its place among those that change it
  pub record Arranged (reading changing : List Placed) : Type 0 where
    pub list : List Placed
    pub right : AreRight map last 0 list
    pub apart : AreApart list
    pub all : (x : Placed) → In x list → In x reading ⊎ In x changing
    pub reads : (x : Placed) → In x reading → In x list
    pub changes : (x : Placed) → In x changing → In x list

  pub arranged : (reading changing : List Placed) → ((x : Placed) → In x reading → Reads x) → AreApart reading → AreRight map last 0 changing → AreApart changing
      → ((x y : Placed) → In x reading → In y changing → x.item.begin ≢ y.item.begin) → Arranged reading changing
  arranged [] changing each own right apart cross =
      record { list = changing; right = right; apart = apart; all = λ x i. inr i; reads = λ x i. absurd i; changes = λ x i. i }
  arranged (x ∷ xs) changing each own right apart cross =
      let rest = arranged xs changing (λ y i. each y (inr i)) own.1 right apart (λ y z i. cross y z (inr i)) in
      let its = each x (inl refl) in
      let new = insert 0 x rest.list its.right its.reads (omega arith) its.high rest.right in record {
        list = new.list;
        right = new.right;
        apart = new.apart rest.apart (λ y i. elim (rest.all y i) [ inl j ↦ own.0 y j | inr j ↦ cross x y (inl refl) j ]);
        all = λ y i. elim (new.all y i) [
          | inl e ↦ inl (inl e)
          | inr j ↦ elim (rest.all y j) [ inl k ↦ inl (inr k) | inr k ↦ inr k ]
        ];
        reads = λ y i. elim i [
          | inl e ↦ subst (λ z. In z new.list) (sym e) new.has
          | inr j ↦ new.keeps y (rest.reads y j)
        ];
        changes = λ y i. new.keeps y (rest.changes y i);
      }

  -- no point is before the first
  pub low_in : (first : ℕ) (xs : List Placed) → AreRight map last first xs → (x : Placed) → In x xs → first ≤ x.at
  low_in first [] h x i = absurd i
  low_in first (y ∷ ys) h x i = elim i [
    | inl e ↦ (let up = h.0.up in let same = ap (λ (p : Placed). p.at) e in omega arith)
    | inr j ↦ (let up = h.0.up in let more = h.1.up in let low = low_in y.past ys h.2 x j in omega arith)
  ]

  -- points come in their order
  pub in_order : (first : ℕ) (xs : List Placed) → AreRight map last first xs → (i j : ℕ) (x y : Placed) → get_elem? xs i ≡ some x → get_elem? xs j ≡ some y → i ≤ j
      → x.at ≤ y.at
  in_order first [] h i j x y a b up = absurd (some-ne-none x (sym a))
  in_order first (z ∷ zs) h zero zero x y a b up = (let same = ap (λ (p : Placed). p.at) (some-injective x y (sym a ∙ b)) in omega arith)
  in_order first (z ∷ zs) h zero (suc j) x y a b up =
      let same = ap (λ (p : Placed). p.at) (some-injective z x a) in
      let more = h.1.up in
      let low = low_in z.past zs h.2 y (in_at zs j y b) in omega arith
  in_order first (z ∷ zs) h (suc i) zero x y a b up = absurd (omega arith)
  in_order first (z ∷ zs) h (suc i) (suc j) x y a b up = in_order z.past zs h.2 i j x y a b (omega arith)

-- no call is there twice
pub once_in : (xs : List Placed) → AreApart xs → (i j : ℕ) (x y : Placed) → get_elem? xs i ≡ some x → get_elem? xs j ≡ some y → x.item.begin ≡ y.item.begin → i ≡ j
once_in [] h i j x y a b e = absurd (some-ne-none x (sym a))
once_in (z ∷ zs) h zero zero x y a b e = refl
once_in (z ∷ zs) h zero (suc j) x y a b e = absurd (h.0 y (in_at zs j y b) (ap (λ (p : Placed). p.item.begin) (some-injective z x a) ∙ e))
once_in (z ∷ zs) h (suc i) zero x y a b e = absurd (h.0 x (in_at zs i x a) (ap (λ (p : Placed). p.item.begin) (some-injective z y b) ∙ sym e))
once_in (z ∷ zs) h (suc i) (suc j) x y a b e = ap suc (once_in zs h.1 i j x y a b e)

-- an item of the list of items is one with its point
pub record PlacedAt (xs : List Placed) (i : ℕ) (item : Item) : Type 0 where
  pub placed : Placed
  pub there : get_elem? xs i ≡ some placed
  pub is : placed.item ≡ item

pub placed_at : (xs : List Placed) (i : ℕ) (item : Item) → get_elem? (items_of xs) i ≡ some item → PlacedAt xs i item
placed_at [] i item e = absurd (some-ne-none item (sym e))
placed_at (x ∷ xs) zero item e = record { placed = x; there = refl; is = some-injective x.item item e }
placed_at (x ∷ xs) (suc i) item e = (let rest = placed_at xs i item e in record { placed = rest.placed; there = rest.there; is = rest.is })

pub item_in : (xs : List Placed) (x : Placed) → In x xs → (i : ℕ) × (get_elem? (items_of xs) i ≡ some x.item)
item_in [] x h = absurd h
item_in (y ∷ ys) x h = elim h [
  | inl e ↦ (0, ap (λ (p : Placed). some p.item) (sym e))
  | inr j ↦ (let rest = item_in ys x j in (suc rest.0, rest.1))
]

use Rattle.std.proofs.Common.{◌≡◌, ℕ, ◌<◌, ◌≤◌, ◌⊎◌, Bool, true, false, not, nat_le, inl, inr, refl, sym, ap, ◌∙◌, subst, arith}
use Rattle.std.proofs.lemmas.Bool.Decides.{nat_tests}
use Rattle.ell_word.specs.Node.{IsInternal}
use Rattle.ell_trie.specs.Ranges.{low_of, high_of, Spans, root, goes, IsCutOut, IsSpanned}
use Rattle.ell_trie.proofs.lemmas.order.Removes.{same_or_not}
use Rattle.ell_trie.specs.Tries.{Opening, IsTrie}
use Rattle.ell_trie.specs.Links.{Links}
use Rattle.ell_trie.proofs.lemmas.Paths.{Under, here, next}
use Rattle.ell_trie.proofs.lemmas.links.Sides.{no_cycle, kept, to_new, from_old}

-- where the range of what is below the old node begins and ends on the other side: where it did, or at the new node's key
abbrev pub LowIs : Bool → ℕ → ℕ → ℕ → Type 0
LowIs t a c m = (a ≡ c) ⊎ ((t ≡ false) × (a ≡ m))

abbrev pub HighIs : Bool → ℕ → ℕ → ℕ → Type 0
HighIs t b d m = (b ≡ d) ⊎ ((t ≡ true) × (b ≡ m))

low_first : (t : Bool) (a m e : ℕ) → e ≡ low_of (not t) a m → LowIs t e a m
low_first true a m e h = inl h
low_first false a m e h = inr (refl, h)

high_first : (t : Bool) (a m e : ℕ) → e ≡ high_of (not t) a m → HighIs t e a m
high_first true a m e h = inr (refl, h)
high_first false a m e h = inl h

low_next : (t u : Bool) (a c m k e : ℕ) → LowIs t a c m → e ≡ low_of u a k → LowIs t e (low_of u c k) m
low_next t true a c m k e h f = inl f
low_next t false a c m k e (inl h) f = inl (f ∙ h)
low_next t false a c m k e (inr h) f = inr (h.0, f ∙ h.1)

high_next : (t u : Bool) (b d m k e : ℕ) → HighIs t b d m → e ≡ high_of u b k → HighIs t e (high_of u d k) m
high_next t false b d m k e h f = inl f
high_next t true b d m k e (inl h) f = inl (f ∙ h)
high_next t true b d m k e (inr h) f = inr (h.0, f ∙ h.1)

-- a key on the other side of the new node is in such a range as before
pub low_there : {t : Bool} {c a m j : ℕ} → nat_le m j ≡ not t → LowIs t c a m → a ≤ j → c ≤ j
low_there side (inl e) w = omega arith
low_there {m = m} {j = j} side (inr e) w = let right = side ∙ ap not e.0 in let is = e.1 in let more : m ≤ j = grind (arith, nat_tests) in omega arith

pub high_there : {t : Bool} {d c m j : ℕ} → nat_le m j ≡ not t → HighIs t d c m → j < c → j < d
high_there side (inl e) w = omega arith
high_there {m = m} {j = j} side (inr e) w = let left = side ∙ ap not e.0 in let is = e.1 in let less : j < m = grind (arith, nat_tests) in omega arith

-- what is reached afterwards: what was; the new node in the old one's range; the new leaf; and what is below the old node
pub data Linked (key : ℕ → ℕ) (child : ℕ → Bool → ℕ) (top x q : ℕ) (t : Bool) (n : ℕ) : ℕ → ℕ → ℕ → Type 0 where
  same : {z a b : ℕ} → Spans key child top z a b → Linked key child top x q t n z a b
  new_node : {z a b : ℕ} → z ≡ q → Spans key child top x a b → Linked key child top x q t n z a b
  new_leaf : {z a b low high : ℕ} → z ≡ n → Spans key child top x low high → a ≡ low_of t low (key q) → b ≡ high_of t high (key q)
      → Linked key child top x q t n z a b
  lower : {z a b c d : ℕ} → Under child x z → Spans key child top z c d → LowIs t a c (key q) → HighIs t b d (key q) → Linked key child top x q t n z a b

-- what was reached before still is, below the old node in a range that lacks keys of the new leaf's side alone
pub data Stays (key : ℕ → ℕ) (child after : ℕ → Bool → ℕ) (top x q : ℕ) (t : Bool) (z a b : ℕ) : Type 0 where
  out : Spans key after top z a b → Stays key child after top x q t z a b
  in_ : {c d : ℕ} → Under child x z → Spans key after top z c d → LowIs t c a (key q) → HighIs t d b (key q) → Stays key child after top x q t z a b

module _ {Born : ℕ → Type 0} {o : Opening} {key : ℕ → ℕ} {child after : ℕ → Bool → ℕ} {top p : ℕ} {s : Bool} {x q : ℕ} {t : Bool} {n k : ℕ}
    (trie : IsTrie Born o key child) (link : Links Born o key child after top p s x q t n k) where
  link_step : (z a b y c d : ℕ) (u : Bool) → Linked key child top x q t n z a b → IsInternal z → y ≡ after z u → c ≡ low_of u a (key z) → d ≡ high_of u b (key z)
      → Linked key child top x q t n y c d
  link_step z a b y c d u (same r) i e f g = elim (link.shape.relinks.others z u) [
    | inl h ↦ new_node (e ∙ to_new trie link h.0 h.1) (goes u r i (sym (from_old trie link h.0 h.1)) f g)
    | inr h ↦ same (goes u r i (e ∙ h) f g)
  ]
  link_step z a b y c d u (new_node is r) i e f g =
      let to : y ≡ child q u = e ∙ (ap (λ v. after v u) is ∙ kept trie link u) in
      let mid : key z ≡ key q = ap key is in
      elim (same_or_not u t) [
        | inl w ↦ new_leaf (to ∙ (ap (child q) w ∙ link.shape.beside)) r
            (f ∙ (ap (λ v. low_of v a (key z)) w ∙ ap (low_of t a) mid)) (g ∙ (ap (λ v. high_of v b (key z)) w ∙ ap (high_of t b) mid))
        | inr w ↦
            let at_x : y ≡ x = to ∙ (ap (child q) w ∙ link.shape.below) in
            lower (here at_x) (subst (λ v. Spans key child top v a b) (sym at_x) r)
            (low_first t a (key q) c (f ∙ (ap (λ v. low_of v a (key z)) w ∙ ap (low_of (not t) a) mid)))
            (high_first t b (key q) d (g ∙ (ap (λ v. high_of v b (key z)) w ∙ ap (high_of (not t) b) mid)))
      ]
  link_step z a b y c d u (new_leaf is r _ _) i e f g = absurd (link.shape.outer (subst IsInternal is i))
  link_step z a b y c d u (lower v r l h) i e f g = elim (link.shape.relinks.others z u) [
    | inl w ↦ absurd (no_cycle trie link (subst (Under child x) w.0 v))
    | inr w ↦ lower (next u v i (e ∙ w)) (goes u r i (e ∙ w) refl refl) (low_next t u a _ (key q) (key z) c l f) (high_next t u b _ (key q) (key z) d h g)
  ]

  pub spans_link : {z a b : ℕ} → Spans key after top z a b → Linked key child top x q t n z a b
  spans_link (root e f g) = same (root e f g)
  spans_link (goes u r i e f g) = link_step _ _ _ _ _ _ u (spans_link r) i e f g

  stay_step : (z a b y c d : ℕ) (u : Bool) → Stays key child after top x q t z a b → IsInternal z → y ≡ child z u → c ≡ low_of u a (key z) → d ≡ high_of u b (key z)
      → Stays key child after top x q t y c d
  stay_step z a b y c d u (out r) i e f g = elim (link.shape.relinks.others z u) [
    | inl h ↦
        let is : y ≡ x = e ∙ from_old trie link h.0 h.1 in
        let at_q = goes u r i (sym (to_new trie link h.0 h.1)) f g in
        let down : y ≡ after q (not t) = is ∙ (sym link.shape.below ∙ sym (kept trie link (not t))) in
        in_ (here is) (goes (not t) at_q link.shape.node down refl refl) (low_first t c (key q) _ refl) (high_first t d (key q) _ refl)
    | inr h ↦ out (goes u r i (e ∙ sym h) f g)
  ]
  stay_step z a b y c d u (in_ {c = c2} {d = d2} v r l h) i e f g = elim (link.shape.relinks.others z u) [
    | inl w ↦ absurd (no_cycle trie link (subst (Under child x) w.0 v))
    | inr w ↦ in_ (next u v i e) (goes u r i (e ∙ sym w) refl refl)
        (subst (λ o. LowIs t (low_of u c2 (key z)) o (key q)) (sym f) (low_next t u c2 a (key q) (key z) (low_of u c2 (key z)) l refl))
        (subst (λ o. HighIs t (high_of u d2 (key z)) o (key q)) (sym g) (high_next t u d2 b (key q) (key z) (high_of u d2 (key z)) h refl))
  ]

  pub spans_stay : {z a b : ℕ} → Spans key child top z a b → Stays key child after top x q t z a b
  spans_stay (root e f g) = out (root e f g)
  spans_stay (goes u r i e f g) = stay_step _ _ _ _ _ _ u (spans_stay r) i e f g

  -- the old node is reached, in its range
  pub x_spans : Spans key child top x (low_of s link.low (key p)) (high_of s link.high (key p))
  x_spans = goes s link.reached link.shape.from (sym link.shape.was) refl refl

  -- and then the new node is, in that range
  pub q_spans : Spans key after top q (low_of s link.low (key p)) (high_of s link.high (key p))
  q_spans = elim (spans_stay link.reached) [
    | out r ↦ goes s r link.shape.from (sym link.shape.relinks.there) refl refl
    | in_ v r l h ↦ absurd (no_cycle trie link v)
  ]

  pub reached_after : (z : ℕ) → IsSpanned key child top z → IsSpanned key after top z
  reached_after z h = elim (spans_stay h.spans) [
    | out r ↦ record { low = _; high = _; spans = r }
    | in_ v r l g ↦ record { low = _; high = _; spans = r }
  ]

  pub out_after : (z : ℕ) → Born z → IsCutOut key child top z → IsCutOut key after top z
  out_after z b h low high r = elim (spans_link r) [
    | same r2 ↦ h _ _ r2
    | new_node e r2 ↦ link.shape.fresh (subst Born e b)
    | new_leaf e r2 f g ↦ link.shape.fresh_leaf (subst Born e b)
    | lower v r2 f g ↦ h _ _ r2
  ]

-- Which of the three nodes of a card are retired by a word, and how many.
use Rattle.std.proofs.Common.{◌≡◌, ◌≢◌, ℕ, zero, suc, ◌+◌, ◌*◌, ◌-◌, ◌/◌, ◌%◌, ◌↔◌, if◌then◌else◌, ◌<◌, ◌≤◌, ◌==◌, ◌&&◌, ◌||◌, not, Bool, true, false, inl, inr, ◌⊎◌, refl, sym, ap, ◌∙◌, arith, eq-eqb, eqb-true}
use Rattle.std.proofs.lemmas.Bool.{false≢true}
use Rattle.std.proofs.lemmas.Bool.Decides.{nat_tests}
use Rattle.ell_cards.specs.declared.card_nodes.CardNodes.{CardNodes}
use Rattle.ell_cards.specs.declared.retiring.Whose.{Whose}
use Rattle.ell_cards.specs.declared.retiring.Whose.TheVariants.{TakenOut, Own}
use Rattle.ell_cards.specs.CardNodes.{RetiresToo, all_are_retired, has_node, retiring_first, retiring_second, retiring_third}
use Rattle.ell_cards.specs.Retiring.{how_many_retired, is_done, one_if}
use Rattle.ell_cards.specs.SlotWords.{is_retired, taken_word, generation_in, generation_of}

-- where a word is to retire one node more, or not: its generation is as it was, and so are the two others
both_of : (a b : Bool) → (a && b) ≡ true → (a ≡ true) × (b ≡ true)
both_of true b is = (refl, is)
both_of false b is = absurd (false≢true is)

not_both : (a b : Bool) → (a && b) ≡ false → a ≡ true → b ≡ false
not_both true b is so = is
not_both false b is so = absurd (false≢true so)

record RetiresOne (too : Bool) (n m k : ℕ) : Type 0 where
  generation : generation_in m ≡ generation_in n
  each : (i : ℕ) → (is_retired m i ≡ true) ↔ ((is_retired n i ≡ true) ⊎ ((i ≡ k) × (too ≡ true)))

-- another one is retired if it was
kept_bit : (P Q : Bool) → P ≡ Q → (x : Type 0) → ¬ x → (P ≡ true) ↔ ((Q ≡ true) ⊎ x)
kept_bit P Q same x none = (λ is. inl (sym same ∙ is), λ is. elim is [ inl was ↦ same ∙ was | inr nay ↦ absurd (none nay) ])

retires_first : (too : Bool) (n : ℕ) → RetiresOne too n (retiring_first too n) 0
retires_first too n = by (too && n % 2 == 1) refl
  where
    by : (c : Bool) → (too && n % 2 == 1) ≡ c → RetiresOne too n (if c then n - 1 else n) 0
    by true e =
        let so = both_of too (n % 2 == 1) e in
        let odd = eqb-true (n % 2) 1 so.1 in record {
          generation = omega arith;
          each = λ i. at odd so.0 i;
        }
      where
        at : n % 2 ≡ 1 → too ≡ true → (i : ℕ) → (is_retired (n - 1) i ≡ true) ↔ ((is_retired n i ≡ true) ⊎ ((i ≡ 0) × (too ≡ true)))
        at odd so zero = (λ is. inr (refl, so), λ is. eq-eqb ((n - 1) % 2) 0 (omega arith))
        at odd so (suc zero) = kept_bit _ _ (ap (λ x. x == 0) (let same : (n - 1) / 2 % 2 ≡ n / 2 % 2 = omega arith in same)) _ (λ nay. absurd (omega arith))
        at odd so (suc (suc zero)) = kept_bit _ _ (ap (λ x. x == 0) (let same : (n - 1) / 4 % 2 ≡ n / 4 % 2 = omega arith in same)) _ (λ nay. absurd (omega arith))
        at odd so (suc (suc (suc i))) = kept_bit _ _ refl _ (λ nay. absurd (omega arith))
    by false e = record {
      generation = refl;
      each = λ i. (λ is. inl is, λ is. elim is [ inl was ↦ was | inr one ↦ at (not_both too (n % 2 == 1) e one.1) i one.0 ]);
    }
      where
        at : (n % 2 == 1) ≡ false → (i : ℕ) → i ≡ 0 → is_retired n i ≡ true
        at other zero is = grind (arith, nat_tests)
        at other (suc zero) is = absurd (omega arith)
        at other (suc (suc zero)) is = absurd (omega arith)
        at other (suc (suc (suc i))) is = absurd (omega arith)

retires_second : (too : Bool) (n : ℕ) → RetiresOne too n (retiring_second too n) 1
retires_second too n = by (too && n / 2 % 2 == 1) refl
  where
    by : (c : Bool) → (too && n / 2 % 2 == 1) ≡ c → RetiresOne too n (if c then n - 2 else n) 1
    by true e =
        let so = both_of too (n / 2 % 2 == 1) e in
        let odd = eqb-true (n / 2 % 2) 1 so.1 in record {
          generation = omega arith;
          each = λ i. at odd so.0 i;
        }
      where
        at : n / 2 % 2 ≡ 1 → too ≡ true → (i : ℕ) → (is_retired (n - 2) i ≡ true) ↔ ((is_retired n i ≡ true) ⊎ ((i ≡ 1) × (too ≡ true)))
        at odd so zero = kept_bit _ _ (ap (λ x. x == 0) (let same : (n - 2) % 2 ≡ n % 2 = omega arith in same)) _ (λ nay. absurd (omega arith))
        at odd so (suc zero) = (λ is. inr (refl, so), λ is. eq-eqb ((n - 2) / 2 % 2) 0 (omega arith))
        at odd so (suc (suc zero)) = kept_bit _ _ (ap (λ x. x == 0) (let same : (n - 2) / 4 % 2 ≡ n / 4 % 2 = omega arith in same)) _ (λ nay. absurd (omega arith))
        at odd so (suc (suc (suc i))) = kept_bit _ _ refl _ (λ nay. absurd (omega arith))
    by false e = record {
      generation = refl;
      each = λ i. (λ is. inl is, λ is. elim is [ inl was ↦ was | inr one ↦ at (not_both too (n / 2 % 2 == 1) e one.1) i one.0 ]);
    }
      where
        at : (n / 2 % 2 == 1) ≡ false → (i : ℕ) → i ≡ 1 → is_retired n i ≡ true
        at other zero is = absurd (omega arith)
        at other (suc zero) is = grind (arith, nat_tests)
        at other (suc (suc zero)) is = absurd (omega arith)
        at other (suc (suc (suc i))) is = absurd (omega arith)

retires_third : (too : Bool) (n : ℕ) → RetiresOne too n (retiring_third too n) 2
retires_third too n = by (too && n / 4 % 2 == 1) refl
  where
    by : (c : Bool) → (too && n / 4 % 2 == 1) ≡ c → RetiresOne too n (if c then n - 4 else n) 2
    by true e =
        let so = both_of too (n / 4 % 2 == 1) e in
        let odd = eqb-true (n / 4 % 2) 1 so.1 in record {
          generation = omega arith;
          each = λ i. at odd so.0 i;
        }
      where
        at : n / 4 % 2 ≡ 1 → too ≡ true → (i : ℕ) → (is_retired (n - 4) i ≡ true) ↔ ((is_retired n i ≡ true) ⊎ ((i ≡ 2) × (too ≡ true)))
        at odd so zero = kept_bit _ _ (ap (λ x. x == 0) (let same : (n - 4) % 2 ≡ n % 2 = omega arith in same)) _ (λ nay. absurd (omega arith))
        at odd so (suc zero) = kept_bit _ _ (ap (λ x. x == 0) (let same : (n - 4) / 2 % 2 ≡ n / 2 % 2 = omega arith in same)) _ (λ nay. absurd (omega arith))
        at odd so (suc (suc zero)) = (λ is. inr (refl, so), λ is. eq-eqb ((n - 4) / 4 % 2) 0 (omega arith))
        at odd so (suc (suc (suc i))) = kept_bit _ _ refl _ (λ nay. absurd (omega arith))
    by false e = record {
      generation = refl;
      each = λ i. (λ is. inl is, λ is. elim is [ inl was ↦ was | inr one ↦ at (not_both too (n / 4 % 2 == 1) e one.1) i one.0 ]);
    }
      where
        at : (n / 4 % 2 == 1) ≡ false → (i : ℕ) → i ≡ 2 → is_retired n i ≡ true
        at other zero is = absurd (omega arith)
        at other (suc zero) is = absurd (omega arith)
        at other (suc (suc zero)) is = grind (arith, nat_tests)
        at other (suc (suc (suc i))) is = absurd (omega arith)

-- all three nodes are retired by a word with none of the three bits
pub retired_by_all : (n i : ℕ) → i < 3 → n % 8 ≡ 0 → is_retired n i ≡ true
retired_by_all n zero few all = grind (arith, nat_tests)
retired_by_all n (suc zero) few all = grind (arith, nat_tests)
retired_by_all n (suc (suc zero)) few all = grind (arith, nat_tests)
retired_by_all n (suc (suc (suc i))) few all = absurd (omega arith)

-- nothing but three nodes is retired
pub few_retired : (n i : ℕ) → is_retired n i ≡ true → i < 3
few_retired n zero is = omega arith
few_retired n (suc zero) is = omega arith
few_retired n (suc (suc zero)) is = omega arith
few_retired n (suc (suc (suc i))) is = absurd (false≢true is)

-- a word by which nodes are retired too
pub retires_too : (nodes : CardNodes) (n : ℕ) → RetiresToo nodes n (retiring_third nodes.right (retiring_second nodes.left (retiring_first nodes.internal n)))
retires_too nodes n =
    let one = retires_first nodes.internal n in
    let two = retires_second nodes.left (retiring_first nodes.internal n) in
    let three = retires_third nodes.right (retiring_second nodes.left (retiring_first nodes.internal n)) in record {
      generation = three.generation ∙ (two.generation ∙ one.generation);
      each = λ i. (
        λ is. elim ((three.each i).0 is) [
          | inl was ↦ elim ((two.each i).0 was) [
            | inl first ↦ elim ((one.each i).0 first) [ inl old ↦ inl old | inr x ↦ inr (has 0 i x.0 x.1) ]
            | inr x ↦ inr (has 1 i x.0 x.1)
          ]
          | inr x ↦ inr (has 2 i x.0 x.1)
        ],
        λ is. elim is [
          | inl old ↦ (three.each i).1 (inl ((two.each i).1 (inl ((one.each i).1 (inl old)))))
          | inr new ↦ at one two three i new
        ],
      );
    }
  where
    has : (k i : ℕ) → i ≡ k → has_node nodes k ≡ true → has_node nodes i ≡ true
    has k i is so = ap (has_node nodes) is ∙ so

    at : RetiresOne nodes.internal n (retiring_first nodes.internal n) 0 → RetiresOne nodes.left (retiring_first nodes.internal n) (retiring_second nodes.left (retiring_first nodes.internal n)) 1 → RetiresOne nodes.right (retiring_second nodes.left (retiring_first nodes.internal n)) (retiring_third nodes.right (retiring_second nodes.left (retiring_first nodes.internal n))) 2
        → (i : ℕ) → has_node nodes i ≡ true → is_retired (retiring_third nodes.right (retiring_second nodes.left (retiring_first nodes.internal n))) i ≡ true
    at one two three zero so = (three.each 0).1 (inl ((two.each 0).1 (inl ((one.each 0).1 (inr (refl, so))))))
    at one two three (suc zero) so = (three.each 1).1 (inl ((two.each 1).1 (inr (refl, so))))
    at one two three (suc (suc zero)) so = (three.each 2).1 (inr (refl, so))
    at one two three (suc (suc (suc i))) so = absurd (false≢true so)

-- the low bits of a word, by which nodes it retires
bit_of : (b : Bool) (n : ℕ) → (n == 0) ≡ b → n < 2 → n + one_if b ≡ 1
bit_of true n is low = (let none = eqb-true n 0 is in omega arith)
bit_of false n is low = by n low is
  where
    by : (n : ℕ) → n < 2 → (n == 0) ≡ false → n + 0 ≡ 1
    by zero low is = absurd (false≢true (sym is))
    by (suc zero) low is = refl
    by (suc (suc n)) low is = absurd (omega arith)

pub low_bits : (n : ℕ) → n % 8 + (one_if (is_retired n 0) + 2 * one_if (is_retired n 1) + 4 * one_if (is_retired n 2)) ≡ 7
low_bits n =
    let a = bit_of (is_retired n 0) (n % 2) refl (omega arith) in
    let b = bit_of (is_retired n 1) (n / 2 % 2) refl (omega arith) in
    let c = bit_of (is_retired n 2) (n / 4 % 2) refl (omega arith) in
    omega arith

-- of two words by one of which all nodes are retired that are so by the other: the same are, or more
bits_more : (a b c d e f : Bool) → (a ≡ true → d ≡ true) → (b ≡ true → e ≡ true) → (c ≡ true → f ≡ true)
    → ((a ≡ d) × (b ≡ e) × (c ≡ f)) ⊎ (one_if a + one_if b + one_if c < one_if d + one_if e + one_if f)
bits_more a b c d e f one two three = elim (at a d one) [
  | inl x ↦ elim (at b e two) [
    | inl y ↦ elim (at c f three) [ inl z ↦ inl (x, y, z) | inr z ↦ inr (let p = ap one_if x in let q = ap one_if y in omega arith) ]
    | inr y ↦ inr (let p = ap one_if x in let q = most c f three in omega arith)
  ]
  | inr x ↦ inr (let p = most b e two in let q = most c f three in omega arith)
]
  where
    at : (a d : Bool) → (a ≡ true → d ≡ true) → (a ≡ d) ⊎ (one_if a < one_if d)
    at true d h = inl (sym (h refl))
    at false true h = inr (omega arith)
    at false false h = inl refl

    most : (a d : Bool) → (a ≡ true → d ≡ true) → one_if a ≤ one_if d
    most true d h = (let p = ap one_if (h refl) in omega arith)
    most false d h = omega arith

-- a word of the same generation by which all nodes are retired that are so by another one is that word, or more are
pub retires_more : (n m : ℕ) → generation_in m ≡ generation_in n → ((i : ℕ) → is_retired n i ≡ true → is_retired m i ≡ true) → m ≢ n → how_many_retired n < how_many_retired m
retires_more n m generation more other =
    elim (bits_more (is_retired n 0) (is_retired n 1) (is_retired n 2) (is_retired m 0) (is_retired m 1) (is_retired m 2) (more 0) (more 1) (more 2)) [
      | inl same ↦
          let low = low_bits n in
          let low' = low_bits m in
          let a = ap one_if same.0 in
          let b = ap one_if same.1 in
          let c = ap one_if same.2 in
          absurd (other (omega arith))
      | inr less ↦ less
    ]

-- where all are retired, each node is, whichever are asked for
all_by : (nodes : CardNodes) (n : ℕ) → (is_retired n 0 ≡ true) → (is_retired n 1 ≡ true) → (is_retired n 2 ≡ true) → all_are_retired nodes n ≡ true
all_by nodes n a b c = by nodes.internal nodes.left nodes.right (is_retired n 0) (is_retired n 1) (is_retired n 2) a b c
  where
    by : (x y z a b c : Bool) → a ≡ true → b ≡ true → c ≡ true → ((not x || a) && (not y || b) && (not z || c)) ≡ true
    by x y z a b c p q r = (λ i. (not x || p i) && (not y || q i) && (not z || r i)) ∙ so x y z
      where
        so : (x y z : Bool) → ((not x || true) && (not y || true) && (not z || true)) ≡ true
        so true true true = refl
        so true true false = refl
        so true false true = refl
        so true false false = refl
        so false true true = refl
        so false true false = refl
        so false false true = refl
        so false false false = refl

pub all_of_full : (nodes : CardNodes) (n : ℕ) → n % 8 ≡ 0 → all_are_retired nodes n ≡ true
all_of_full nodes n full = all_by nodes n (retired_by_all n 0 (omega arith) full) (retired_by_all n 1 (omega arith) full) (retired_by_all n 2 (omega arith) full)

-- what is left by a word: the slot is in use, some node is not retired, and the generation is the card's if it is the
-- one in hand
or_false : (a b : Bool) → (a || b) ≡ false → (a ≡ false) × (b ≡ false)
or_false true b e = absurd (false≢true (sym e))
or_false false b e = (refl, e)

not_all : (whose : Whose) (c : ℕ) (nodes : CardNodes) (n : ℕ) → is_done whose c nodes n ≡ false → all_are_retired nodes n ≡ false
not_all TakenOut c nodes n left = left
not_all Own c nodes n left = (or_false (all_are_retired nodes n) _ left).0

pub left_used : (whose : Whose) (c : ℕ) (nodes : CardNodes) (n : ℕ) → is_done whose c nodes n ≡ false → n % 8 ≢ 0
left_used whose c nodes n left full =
    false≢true (sym (not_all whose c nodes n left) ∙ all_of_full nodes n full)

pub left_generation : (c : ℕ) (nodes : CardNodes) (n : ℕ) → is_done Own c nodes n ≡ false → generation_in n ≡ generation_of c
left_generation c nodes n left = eqb-true (generation_in n) (generation_of c) (not_not (generation_in n == generation_of c) (or_false (all_are_retired nodes n) _ left).1)
  where
    not_not : (b : Bool) → not b ≡ false → b ≡ true
    not_not true e = refl
    not_not false e = absurd (false≢true (sym e))

pub left_some : (whose : Whose) (c : ℕ) (nodes : CardNodes) (n : ℕ) → is_done whose c nodes n ≡ false → (i : ℕ) × (has_node nodes i ≡ true)
left_some whose c nodes n left = by nodes.internal nodes.left nodes.right refl refl refl
  where
    by : (x y z : Bool) → nodes.internal ≡ x → nodes.left ≡ y → nodes.right ≡ z → (i : ℕ) × (has_node nodes i ≡ true)
    by true y z a b c = (0, a)
    by false true z a b c = (1, b)
    by false false true a b c = (2, c)
    by false false false p q r =
        absurd (false≢true (sym (not_all whose c nodes n left)
        ∙ (λ i. (not (p i) || is_retired n 0) && (not (q i) || is_retired n 1) && (not (r i) || is_retired n 2))))

-- of a card there are three nodes
pub few_nodes : (nodes : CardNodes) (i : ℕ) → has_node nodes i ≡ true → i < 3
few_nodes nodes zero is = omega arith
few_nodes nodes (suc zero) is = omega arith
few_nodes nodes (suc (suc zero)) is = omega arith
few_nodes nodes (suc (suc (suc i))) is = absurd (false≢true is)

-- where all of some nodes are retired, each is
and_true : (a b : Bool) → (a && b) ≡ true → (a ≡ true) × (b ≡ true)
and_true true b e = (refl, e)
and_true false b e = absurd (false≢true e)

wanted : (a b : Bool) → (not a || b) ≡ true → a ≡ true → b ≡ true
wanted true b e is = e
wanted false b e is = absurd (false≢true is)

pub all_some : (nodes : CardNodes) (n i : ℕ) → all_are_retired nodes n ≡ true → has_node nodes i ≡ true → is_retired n i ≡ true
all_some nodes n i all has = by i has
  where
    two : (((not nodes.internal || is_retired n 0) && (not nodes.left || is_retired n 1)) ≡ true) × ((not nodes.right || is_retired n 2) ≡ true)
    two = and_true ((not nodes.internal || is_retired n 0) && (not nodes.left || is_retired n 1)) (not nodes.right || is_retired n 2) all

    one : ((not nodes.internal || is_retired n 0) ≡ true) × ((not nodes.left || is_retired n 1) ≡ true)
    one = and_true (not nodes.internal || is_retired n 0) (not nodes.left || is_retired n 1) two.0

    by : (i : ℕ) → has_node nodes i ≡ true → is_retired n i ≡ true
    by zero has = wanted nodes.internal (is_retired n 0) one.0 has
    by (suc zero) has = wanted nodes.left (is_retired n 1) one.1 has
    by (suc (suc zero)) has = wanted nodes.right (is_retired n 2) two.1 has
    by (suc (suc (suc i))) has = absurd (false≢true has)

-- where none is left, they are retired, or the word is of another generation than the card in hand
pub done_by : (whose : Whose) (c : ℕ) (nodes : CardNodes) (n : ℕ) → is_done whose c nodes n ≡ true → (all_are_retired nodes n ≡ true) ⊎ ((whose ≡ Own) × (generation_in n ≢ generation_of c))
done_by TakenOut c nodes n done = inl done
done_by Own c nodes n done = by (all_are_retired nodes n) (generation_in n == generation_of c) refl done
  where
    by : (a e : Bool) → (generation_in n == generation_of c) ≡ e → (a || not e) ≡ true → (a ≡ true) ⊎ ((Own ≡ Own) × (generation_in n ≢ generation_of c))
    by true e y done = inl refl
    by false true y done = absurd (false≢true done)
    by false false y done = inr (refl, λ same. false≢true (sym y ∙ eq-eqb (generation_in n) (generation_of c) same))

-- by the word of a slot that was just taken nothing is retired
pub none_is_retired : (generation k : ℕ) → is_retired (taken_word generation) k ≡ true → ⊥
none_is_retired generation zero is = grind arith
none_is_retired generation (suc zero) is = grind arith
none_is_retired generation (suc (suc zero)) is = grind arith
none_is_retired generation (suc (suc (suc k))) is = false≢true is

-- a word by which nothing is retired has all three bits
pub unretired : (n : ℕ) → ((i : ℕ) → is_retired n i ≡ true → ⊥) → n % 8 ≡ 7
unretired n none = by (is_retired n 0) (is_retired n 1) (is_retired n 2) refl refl refl
  where
    by : (a b c : Bool) → is_retired n 0 ≡ a → is_retired n 1 ≡ b → is_retired n 2 ≡ c → n % 8 ≡ 7
    by true b c x y z = absurd (none 0 x)
    by false true c x y z = absurd (none 1 y)
    by false false true x y z = absurd (none 2 z)
    by false false false x y z =
        let low = low_bits n in
        let a = ap one_if x in
        let b = ap one_if y in
        let c = ap one_if z in
        omega arith

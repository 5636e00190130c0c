-- Each call stands once in the calls of passes.
use Rattle.std.proofs.Common.{◌≡◌, ◌≢◌, ℕ, zero, suc, List, [], ◌∷◌, ◌++◌, set, inl, inr, ◌⊎◌, refl, sym, ◌∙◌, subst}
use mathlib.Core.Option.{some, some-injective, some-ne-none}
use lib.ListN.{get_elem?}
use Rattle.atomic_table.proofs.Lists.{at_set, at_snoc}
use Rattle.ell_runs.specs.declared.view.Act.{Act}
use Rattle.ell_cards.specs.declared.view.Known.{Known}
use Rattle.ell_runs.specs.Views.{Has, latest, earlier}
use Rattle.ell_cards.specs.AllSeen.{AreAllApart}
use Rattle.ell_runs.specs.Seeing.{AreApart}
use Rattle.ell_cards.proofs.lemmas.whole.Seeing.{has_either, has_none}

-- the calls of two lists that have none in common
pub apart_both : (xs ys : List Act) → AreApart xs → AreApart ys → ((a b : Act) → Has xs a → Has ys b → a.begin ≢ b.begin) → AreApart (xs ++ ys)
apart_both [] ys one other none = other
apart_both (x ∷ xs) ys one other none = (
  λ a has. elim (has_either xs ys a has) [
    | inl mine ↦ one.0 a mine
    | inr its ↦ λ same. none x a (latest x xs) its (sym same)
  ],
  apart_both xs ys one.1 other (λ a b has its. none a b (earlier a x xs has) its),
)

-- no call of other passes is this one
abbrev pub IsNew : List Known → ℕ → Act → Type 0
IsNew views id a = (j : ℕ) (l : Known) → j ≢ id → get_elem? views j ≡ some l → (b : Act) → Has l.sight.mine b → a.begin ≢ b.begin

-- where a pass has other calls: those that it had, or new ones
pub apart_set : (views : List Known) (id : ℕ) (k now : Known) → get_elem? views id ≡ some k → AreAllApart views → AreApart now.sight.mine
    → ((a : Act) → Has now.sight.mine a → Has k.sight.mine a ⊎ IsNew views id a) → AreAllApart (set views id now)
apart_set views id k now here all mine new = record {
  each = λ seat u at. elim (at_set views id seat now u at) [
    | inl e ↦ subst (λ (x : Known). AreApart x.sight.mine) e.1 mine
    | inr e ↦ all.each seat u e.1
  ];
  others = λ i j u v at there apart a b has its. elim (at_set views id i now u at) [
    | inl e ↦ elim (at_set views id j now v there) [
      | inl f ↦ absurd (apart (e.0 ∙ sym f.0))
      | inr f ↦ one j v f.0 f.1 a b (subst (λ (x : Known). Has x.sight.mine a) (sym e.1) has) its
    ]
    | inr e ↦ elim (at_set views id j now v there) [
      | inl f ↦ λ same. one i u e.0 e.1 b a (subst (λ (x : Known). Has x.sight.mine b) (sym f.1) its) has (sym same)
      | inr f ↦ all.others i j u v e.1 f.1 apart a b has its
    ]
  ];
}
  where
    one : (j : ℕ) (l : Known) → j ≢ id → get_elem? views j ≡ some l → (a b : Act) → Has now.sight.mine a → Has l.sight.mine b → a.begin ≢ b.begin
    one j l other at a b has its = elim (new a has) [
      | inl was ↦ all.others id j k l here at (λ e. other (sym e)) a b was its
      | inr is ↦ is j l other at b its
    ]

-- a pass more, which has none
pub apart_snoc : (views : List Known) (k : Known) → AreAllApart views → k.sight.mine ≡ [] → AreAllApart (views ++ k ∷ [])
apart_snoc views k all none = record {
  each = λ seat u at. elim (at_snoc views k u seat at) [
    | inl there ↦ all.each seat u there
    | inr e ↦ subst (λ (x : Known). AreApart x.sight.mine) e (subst AreApart (sym none) tt)
  ];
  others = λ i j u v at there apart a b has its. elim (at_snoc views k u i at) [
    | inl e ↦ elim (at_snoc views k v j there) [
      | inl f ↦ all.others i j u v e f apart a b has its
      | inr f ↦ absurd (no_call v f b its)
    ]
    | inr e ↦ absurd (no_call u e a has)
  ];
}
  where
    no_call : (u : Known) → k ≡ u → (a : Act) → Has u.sight.mine a → ⊥
    no_call u is a has = has_none a (subst (λ l. Has l a) none (subst (λ (x : Known). Has x.sight.mine a) (sym is) has))

-- a table's first pass has none
pub apart_first : (k : Known) → k.sight.mine ≡ [] → AreAllApart (k ∷ [])
apart_first k none = record {
  each = λ seat u at. each seat u at;
  others = λ i j u v at there apart a b has its. absurd (apart (first i u at ∙ sym (first j v there)));
}
  where
    first : (seat : ℕ) (u : Known) → get_elem? (k ∷ []) seat ≡ some u → seat ≡ 0
    first zero u at = refl
    first (suc seat) u at = absurd (some-ne-none u (sym at))

    each : (seat : ℕ) (u : Known) → get_elem? (k ∷ []) seat ≡ some u → AreApart u.sight.mine
    each zero u at = subst (λ (x : Known). AreApart x.sight.mine) (some-injective k u at) (subst AreApart (sym none) tt)
    each (suc seat) u at = absurd (some-ne-none u (sym at))

-- two passes as one have the calls of both, and the other one has none
pub apart_joined : (views : List Known) (id other : ℕ) (k l both spent : Known) → get_elem? views id ≡ some k → get_elem? views other ≡ some l → other ≢ id
    → both.sight.mine ≡ k.sight.mine ++ l.sight.mine → spent.sight.mine ≡ [] → AreAllApart views → AreAllApart (set (set views id both) other spent)
apart_joined views id other k l both spent here there discarded is none all = record {
  each = λ seat u at. elim (at_set (set views id both) other seat spent u at) [
    | inl e ↦ subst (λ (x : Known). AreApart x.sight.mine) e.1 (subst AreApart (sym none) tt)
    | inr e ↦ elim (at_set views id seat both u e.1) [
      | inl f ↦ subst (λ (x : Known). AreApart x.sight.mine) f.1 (subst AreApart (sym is)
          (apart_both k.sight.mine l.sight.mine (all.each id k here) (all.each other l there) (λ a b has its. all.others id other k l here there (λ e. discarded (sym e)) a b has its)))
      | inr f ↦ all.each seat u f.1
    ]
  ];
  others = λ i j u v at there' apart a b has its. elim (at_set (set views id both) other i spent u at) [
    | inl e ↦ absurd (no_call u e.1 a has)
    | inr e ↦ elim (at_set (set views id both) other j spent v there') [
      | inl f ↦ absurd (no_call v f.1 b its)
      | inr f ↦ elim (at_set views id i both u e.1) [
        | inl m ↦ elim (at_set views id j both v f.1) [
          | inl n ↦ absurd (apart (m.0 ∙ sym n.0))
          | inr n ↦ one j v n.0 f.0 n.1 a b (subst (λ (x : Known). Has x.sight.mine a) (sym m.1) has) its
        ]
        | inr m ↦ elim (at_set views id j both v f.1) [
          | inl n ↦ λ same. one i u m.0 e.0 m.1 b a (subst (λ (x : Known). Has x.sight.mine b) (sym n.1) its) has (sym same)
          | inr n ↦ all.others i j u v m.1 n.1 apart a b has its
        ]
      ]
    ]
  ];
}
  where
    no_call : (u : Known) → spent ≡ u → (a : Act) → Has u.sight.mine a → ⊥
    no_call u same a has = has_none a (subst (λ l. Has l a) none (subst (λ (x : Known). Has x.sight.mine a) (sym same) has))

    one : (j : ℕ) (u : Known) → j ≢ id → j ≢ other → get_elem? views j ≡ some u → (a b : Act) → Has both.sight.mine a → Has u.sight.mine b → a.begin ≢ b.begin
    one j u apart far at a b has its = elim (has_either k.sight.mine l.sight.mine a (subst (λ l. Has l a) is has)) [
      | inl mine ↦ all.others id j k u here at (λ e. apart (sym e)) a b mine its
      | inr theirs ↦ all.others other j l u there at (λ e. far (sym e)) a b theirs its
    ]

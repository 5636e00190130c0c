use Rattle.std.proofs.Common.{◌≡◌, Bool, true, false, cond, not, List, [], ◌∷◌, ◌||◌, refl, ap, sym, ◌∙◌}
use Rattle.std.proofs.lemmas.Bool.{false≢true}
use Rattle.std.specs.BTreeMap.{is_at}
use Rattle.std.specs.BTreeSet.{insert_key}
use Rattle.std.specs.Set.{remove_key}
use Rattle.std.specs.List.{list_any}
use Rattle.std.specs.declared.cmp.Ordering.{Ordering}
use Rattle.std.specs.declared.cmp.Ordering.TheVariants.{Less, Equal, Greater}
use Rattle.ell_core.specs.declared.fact.Fact.{Fact}
use Rattle.ell_core.specs.declared.fact.Fact.TheVariants.{IFlagged, IChanged, IOver, DFlagged, Marked, Unmarkable, Cut, DOver, Backed}
use Rattle.ell_core.specs.contracts.fact.FactOrd.TheImpl as fact_ord
use Rattle.ell_core.specs.state.Facts.{same_fact, known_of, learned}
use Rattle.ell_ops.proofs.lemmas.Sets.{is_at-nat, eqb-swap}
use Rattle.ell_core.proofs.lemmas.words.SameFact.{same_fact-itself}

-- the order of the facts
abbrev pub fact_cmp : Fact → Fact → Ordering
fact_cmp = (fact_ord.ghosts).cmp

-- by the order of the facts, two compare equal exactly where they are one
pub is_at-same_fact : (x y : Fact) → is_at (fact_cmp x) y ≡ same_fact x y
is_at-same_fact (IFlagged c) (IFlagged d) = is_at-nat c d
is_at-same_fact (IChanged c) (IChanged d) = is_at-nat c d
is_at-same_fact (IOver c) (IOver d) = is_at-nat c d
is_at-same_fact (DFlagged c) (DFlagged d) = is_at-nat c d
is_at-same_fact (Marked c) (Marked d) = is_at-nat c d
is_at-same_fact (Unmarkable c) (Unmarkable d) = is_at-nat c d
is_at-same_fact (Cut c) (Cut d) = is_at-nat c d
is_at-same_fact (DOver c) (DOver d) = is_at-nat c d
is_at-same_fact (Backed c) (Backed d) = is_at-nat c d
is_at-same_fact _ _ = refl

-- whether two facts are one, either way round
pub same_fact-swap : (x y : Fact) → same_fact x y ≡ same_fact y x
same_fact-swap (IFlagged c) (IFlagged d) = eqb-swap c d
same_fact-swap (IChanged c) (IChanged d) = eqb-swap c d
same_fact-swap (IOver c) (IOver d) = eqb-swap c d
same_fact-swap (DFlagged c) (DFlagged d) = eqb-swap c d
same_fact-swap (Marked c) (Marked d) = eqb-swap c d
same_fact-swap (Unmarkable c) (Unmarkable d) = eqb-swap c d
same_fact-swap (Cut c) (Cut d) = eqb-swap c d
same_fact-swap (DOver c) (DOver d) = eqb-swap c d
same_fact-swap (Backed c) (Backed d) = eqb-swap c d
same_fact-swap _ _ = refl

-- std's set has a fact exactly where the list of its facts is knowledge of it
pub contains-known_of : (facts : List Fact) (fact : Fact) → list_any (is_at (fact_cmp fact)) facts ≡ known_of facts fact
contains-known_of [] fact = refl
contains-known_of (x ∷ xs) fact =
    ap (λ b. b || list_any (is_at (fact_cmp fact)) xs) (is_at-same_fact fact x) ∙ ap (λ b. same_fact fact x || b) (contains-known_of xs fact)

-- true or else another test is the one test or the other
cond-or : (a b : Bool) → cond a true b ≡ (a || b)
cond-or true b = refl
cond-or false b = refl

-- what an insert into std's set of facts leaves known, fact by fact
known_of-updates-at : (old new : List Fact) (fact : Fact) →
    ((q : Fact) → list_any (is_at (fact_cmp q)) new ≡ cond (is_at (fact_cmp fact) q) true (list_any (is_at (fact_cmp q)) old)) →
    (q : Fact) → known_of new q ≡ learned (known_of old) fact q
known_of-updates-at old new fact h q =
    sym (contains-known_of new q) ∙ h q
    ∙ ap (λ t. cond t true (list_any (is_at (fact_cmp q)) old)) (is_at-same_fact fact q ∙ same_fact-swap fact q)
    ∙ ap (cond (same_fact q fact) true) (contains-known_of old q) ∙ cond-or (same_fact q fact) (known_of old q)

-- what an insert does to std's set of facts, fact by fact, learning does to the knowledge
pub known_of-updates : (old new : List Fact) (fact : Fact) →
    ((q : Fact) → list_any (is_at (fact_cmp q)) new ≡ cond (is_at (fact_cmp fact) q) true (list_any (is_at (fact_cmp q)) old)) →
    known_of new ≡ learned (known_of old) fact
known_of-updates old new fact h = λ i q. known_of-updates-at old new fact h q i

-- the step of `remove_key-insert_key` at a first key, by how the key compares to it
undone-at : {K : Type 0} (cmp : K → K → Ordering) (k x : K) (xs : List K) (o : Ordering) → cmp k x ≡ o → is_at (cmp k) k ≡ true →
    (is_at (cmp k) x || list_any (is_at (cmp k)) xs) ≡ false →
    (list_any (is_at (cmp k)) xs ≡ false → remove_key (is_at (cmp k)) (insert_key cmp xs k) ≡ xs) →
    remove_key (is_at (cmp k)) (insert_key cmp (x ∷ xs) k) ≡ x ∷ xs
undone-at cmp k x xs Less e tied lacks rest = rw (e, tied) refl
undone-at cmp k x xs Equal e tied lacks rest = absurd (false≢true (sym (rw e at lacks)))
undone-at cmp k x xs Greater e tied lacks rest = rw (e, e) (ap (λ t. x ∷ t) (rest (rw e at lacks)))

-- a key that a list lacks, put into it and taken out again, leaves the list as it was
pub remove_key-insert_key : {K : Type 0} (cmp : K → K → Ordering) (k : K) (ks : List K) → is_at (cmp k) k ≡ true →
    list_any (is_at (cmp k)) ks ≡ false → remove_key (is_at (cmp k)) (insert_key cmp ks k) ≡ ks
remove_key-insert_key cmp k [] tied lacks = rw tied refl
remove_key-insert_key cmp k (x ∷ xs) tied lacks = undone-at cmp k x xs (cmp k x) refl tied lacks (remove_key-insert_key cmp k xs tied)

-- a fact that an insert added was not known
pub known_of-added : (facts : List Fact) (fact : Fact) (added : Bool) →
    added ≡ not (list_any (is_at (fact_cmp fact)) facts) → added ≡ true → known_of facts fact ≡ false
known_of-added facts fact added is new = sym (contains-known_of facts fact) ∙ from_not _ (sym is ∙ new) where
  from_not : (b : Bool) → not b ≡ true → b ≡ false
  from_not true e = sym e
  from_not false e = refl

-- a new fact, put among the facts and taken out again, leaves them as they were
pub facts_undone : (old more new : List Fact) (fact : Fact) → known_of old fact ≡ false →
    more ≡ insert_key fact_cmp old fact → new ≡ remove_key (is_at (fact_cmp fact)) more → new ≡ old
facts_undone old more new fact lacks put taken =
    taken ∙ ap (remove_key (is_at (fact_cmp fact))) put
    ∙ remove_key-insert_key fact_cmp fact old (is_at-same_fact fact fact ∙ same_fact-itself fact) (contains-known_of old fact ∙ lacks)

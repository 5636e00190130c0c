use Rattle.std.proofs.Common.{◌≡◌, ◌≢◌, ℕ, zero, suc, ◌+◌, ◌*◌, ◌^◌, ◌%◌, ◌<◌, ◌⊎◌, inl, inr, true, false, Some, None, [], ◌∷◌, nat_le, refl, sym, ap, ◌∙◌, arith}
use Rattle.std.proofs.lemmas.Bool.{leb-true}
use Rattle.std.proofs.lemmas.Option.{none-some}
use Rattle.std.specs.List.{All}
use Rattle.ell_ops.specs.declared.op.Op.TheVariants.{Insert, Delete}
use Rattle.ell_layout.specs.Branches.{descend}
use Rattle.ell_layout.specs.Words.{Words, has_block}
use Rattle.ell_layout.specs.Cards.{iflag, dflag, marked, clean, put_filling, delete_filling}
use Rattle.ell_layout.specs.Start.{words_at_start}
use Rattle.ell_core.specs.declared.event.Act.TheVariants as act
use Rattle.ell_core.specs.declared.event.Stepped.TheVariants.{Moved, Won}
use Rattle.ell_core.specs.declared.fact.Fact.TheVariants.{IFlagged, IChanged, IOver, DFlagged, Marked, Cut, DOver}
use Rattle.ell_core.specs.state.Machine.{Machine, scene, with_scene, idle}
use Rattle.ell_core.specs.state.Opening.{Setup, opening, opening_ledger, shares, last_card, Faultless}
use Rattle.ell_core.specs.acts.Searching.{claims}
use Rattle.ell_core.specs.statements.RunLaws.{CanOpen, IsPassed, MayBeThere}
use Rattle.ell_core.specs.tree.Flat.{IsInBlock, IsNodeKey}
use Rattle.ell_core.proofs.lemmas.tree.Blocks.{no_block, none_before, block_from}
use Rattle.ell_core.proofs.lemmas.runs.Passed.{openings_passed}
use Rattle.ell_grace.proofs.lemmas.edge.Events.{on, begins_at, begins, reads_scene, reads, down_scene, goes_down, flag_scene, flag_won, update_scene, child_scene, changes, unflags, marks, cuts, ends}

-- three workers share the keys up to 9, of which 5 is in the tree, which is flat
abbrev pub setup : Setup
setup = record { count = 3; owned = []; start = (5, 50) ∷ []; cards = 4; shared = λ k. nat_le k 9; flat = true }

abbrev m0 : Machine
m0 = record {
  words = words_at_start true ((5, 50) ∷ []);
  count = 3;
  last_card = last_card ((5, 50) ∷ []) 4;
  worker = λ i. idle (opening_ledger [] ((5, 50) ∷ []) i) (shares 3 (λ k. nat_le k 9) i) (λ _. false);
}

-- they can open
none_faulty : Faultless 3 []
none_faulty i = (λ h. none-some h.entry h.stands, λ h. none-some h.entry h.stands)

start_shared : All (MayBeThere setup) (5 ∷ [])
start_shared zero d below = inr (omega arith, refl)
start_shared (suc k) d below = absurd (omega arith)

can_open : CanOpen setup
can_open = record {
  faultless = none_faulty;
  real = λ k d below. absurd (omega arith);
  ascending = λ k below. absurd (omega arith);
  given = start_shared;
  apart = λ k shared. (let low = leb-true k 9 shared in omega arith, refl);
}

p0 : IsPassed m0
unfolding opening
p0 = openings_passed setup can_open

there0 : 0 < 3
there0 = omega arith

there1 : 1 < 3
there1 = omega arith

there2 : 2 < 3
there2 = omega arith

-- the tree is flat
not_same : {a b : ℕ} → (◌≡◌ {A = ℕ} 2 0) ⊎ (a ≡ b) → a ≢ b → ⊥
not_same (inl flat) apart = omega arith
not_same (inr same) apart = apart same

-- the branch of 5 and 6 is 6
first_key : IsNodeKey 2 6 5 6
first_key = record {
  greater = λ same. absurd (not_same same (λ e. omega arith));
  branch = λ flat apart. record {
    block = record { bit = 1; place = 1 };
    middle = refl;
    parts = record { lower = record { from = omega arith; before = omega arith }; upper = record { from = omega arith; before = omega arith } };
  };
}

-- and that of 6 and 9 is 8
second_key : IsNodeKey 2 9 6 8
second_key = record {
  greater = λ same. absurd (not_same same (λ e. omega arith));
  branch = λ flat apart. record {
    block = record { bit = 3; place = 0 };
    middle = refl;
    parts = record { lower = record { from = omega arith; before = omega arith }; upper = record { from = omega arith; before = omega arith } };
  };
}

-- 6 is no multiple of 4
fourfold : (a x : ℕ) → a * (2 * (2 * x)) ≡ 4 * (a * x)
fourfold zero x = omega arith
fourfold (suc a) x = let rest = fourfold a x in omega arith

by_four : (a x : ℕ) → 6 ≡ a * (2 * (2 * x)) → ⊥
by_four a x is = let times = fourfold a x in omega arith

-- no block with middle 6 has 9
no_nine : (bit place : ℕ) → 6 ≡ (2 * place + 1) * 2 ^ bit → 9 < (2 * place + 2) * 2 ^ bit → ⊥
no_nine zero place middle more = omega arith
no_nine (suc zero) place middle more = omega arith
no_nine (suc (suc bit)) place middle more =
    let power : 2 ^ suc (suc bit) ≡ 2 * (2 * 2 ^ bit) = omega arith in
    by_four (2 * place + 1) (2 ^ bit) (middle ∙ ap (λ n. (2 * place + 1) * n) power)

-- so node 8 lacks it
lacks : (w : Words) → w.flat_from ≡ 2 → w.key 8 ≡ 6 → ¬ IsInBlock w 8 9
lacks w from key there =
    let has : has_block w.flat_from 8 ≡ true = ap (λ n. has_block n 8) from ∙ block_from 2 8 (omega arith) (omega arith) in
    let found = there.inner refl has in
    no_nine found.block.bit found.block.place (sym key ∙ found.middle) found.inside.before

-- worker 0 takes the operation in hand
abbrev m1 : Machine
m1 = begins_at m0 0 (Insert 6 60)

p1 : IsPassed m1
unfolding descend
p1 = begins m0 0 (Insert 6 60) p0 there0 refl refl

-- it reads the update word of node 0
abbrev m2 : Machine
m2 = with_scene m1 0 (reads_scene m1 0 3 None)

p2 : IsPassed m2
unfolding descend
p2 = reads m1 0 0 3 None p1 there0 refl refl refl refl refl

-- it goes down to node 4
abbrev m3 : Machine
m3 = with_scene m2 0 (down_scene m2 0 (record { node = 0; word = 3; tag = 0 }) 4)

p3 : IsPassed m3
unfolding descend
p3 = goes_down m2 0 (Insert 6 60) (record { node = 0; word = 3; tag = 0 }) 4 p2 there0 refl refl refl refl refl refl refl

-- it reads the update word of node 4
abbrev m4 : Machine
m4 = with_scene m3 0 (reads_scene m3 0 3 None)

p4 : IsPassed m4
unfolding descend
p4 = reads m3 0 4 3 None p3 there0 refl refl refl refl refl

-- it goes down to node 5
abbrev m5 : Machine
m5 = with_scene m4 0 (down_scene m4 0 (record { node = 4; word = 3; tag = 0 }) 5)

p5 : IsPassed m5
unfolding descend
p5 = goes_down m4 0 (Insert 6 60) (record { node = 4; word = 3; tag = 0 }) 5 p4 there0 refl refl refl refl refl refl refl

-- it claims a card
abbrev m6 : Machine
m6 = with_scene m5 0 (claims (scene m5 0) 0 (put_filling true 2 6 60 6 4 5 5 50))

p6 : IsPassed m6
unfolding descend
p6 = on m5 0 act.Claim Moved (claims (scene m5 0) 0 (put_filling true 2 6 60 6 4 5 5 50)) p5 there0 (λ h. h)
    (inl (record {
      op = Insert 6 60;
      what = record { key = 6; value = 60; was = None };
      below = 5;
      parent = (record { node = 4; word = 3; tag = 0 });
      node_key = 6;
      busy = refl;
      puts = refl;
      ready = inl refl;
      at = record { stands = refl; behind = refl; calm = refl };
      takes = record { leaf = λ outer e. (let h : 5 ≡ 6 = e in omega arith); edge = λ inner. (let h : 5 % 4 ≡ 0 = inner in absurd (omega arith)) };
      fits = λ none. no_block m5.words 4 6 (none_before 2 4 refl (omega arith));
      named = first_key;
      says = refl;
      gives = refl;
    }))
    (λ h. omega arith)

-- it flags node 4
abbrev m7 : Machine
m7 = with_scene m6 0 (flag_scene m6 0 4 (iflag 2) (IFlagged 2))

p7 : IsPassed m7
unfolding descend
p7 = on m6 0 act.IFlag Won (flag_scene m6 0 4 (iflag 2) (IFlagged 2)) p6 there0 (λ h. h)
    (record {
      op = Insert 6 60;
      what = record { key = 6; value = 60; was = None };
      card = 2;
      parent = (record { node = 4; word = 3; tag = 0 });
      busy = refl;
      puts = refl;
      holds = refl;
      unflagged = refl;
      behind = refl;
      says = (flag_won m6 0 (record { node = 4; word = 3; tag = 0 }) (iflag 2) (IFlagged 2) refl).0;
      gives = (flag_won m6 0 (record { node = 4; word = 3; tag = 0 }) (iflag 2) (IFlagged 2) refl).1;
    }) (λ h. h)

-- and puts node 8 there
abbrev m8 : Machine
m8 = with_scene m7 0 (child_scene m7 0 4 false 8 (IChanged 2))

p8 : IsPassed m8
unfolding descend
p8 = changes m7 0 2 4 8 false p7 there0 refl refl refl refl refl refl

-- and takes the flag away
abbrev m9 : Machine
m9 = with_scene m8 0 (update_scene m8 0 4 (clean 2) (IOver 2))

p9 : IsPassed m9
unfolding descend
p9 = unflags m8 0 2 4 p8 there0 refl refl refl

-- worker 1 takes the operation in hand
abbrev m10 : Machine
m10 = begins_at m9 1 (Insert 9 90)

p10 : IsPassed m10
unfolding descend
p10 = begins m9 1 (Insert 9 90) p9 there1 refl refl

-- it reads the update word of node 0
abbrev m11 : Machine
m11 = with_scene m10 1 (reads_scene m10 1 3 None)

p11 : IsPassed m11
unfolding descend
p11 = reads m10 1 0 3 None p10 there1 refl refl refl refl refl

-- it goes down to node 4
abbrev m12 : Machine
m12 = with_scene m11 1 (down_scene m11 1 (record { node = 0; word = 3; tag = 0 }) 4)

p12 : IsPassed m12
unfolding descend
p12 = goes_down m11 1 (Insert 9 90) (record { node = 0; word = 3; tag = 0 }) 4 p11 there1 refl refl refl refl refl refl refl

-- it reads the update word of node 4
abbrev m13 : Machine
m13 = with_scene m12 1 (reads_scene m12 1 11 None)

p13 : IsPassed m13
unfolding descend
p13 = reads m12 1 4 11 None p12 there1 refl refl refl refl refl

-- it goes down to node 8
abbrev m14 : Machine
m14 = with_scene m13 1 (down_scene m13 1 (record { node = 4; word = 11; tag = 1 }) 8)

p14 : IsPassed m14
unfolding descend
p14 = goes_down m13 1 (Insert 9 90) (record { node = 4; word = 11; tag = 1 }) 8 p13 there1 refl refl refl refl refl refl refl

-- it claims a card
abbrev m15 : Machine
m15 = with_scene m14 1 (claims (scene m14 1) 1 (put_filling true 3 9 90 8 4 8 6 0))

p15 : IsPassed m15
unfolding descend
p15 = on m14 1 act.Claim Moved (claims (scene m14 1) 1 (put_filling true 3 9 90 8 4 8 6 0)) p14 there1 (λ h. h)
    (inl (record {
      op = Insert 9 90;
      what = record { key = 9; value = 90; was = None };
      below = 8;
      parent = (record { node = 4; word = 11; tag = 1 });
      node_key = 8;
      busy = refl;
      puts = refl;
      ready = inl refl;
      at = record { stands = refl; behind = refl; calm = refl };
      takes = record { leaf = λ outer. absurd (outer refl); edge = λ inner. (refl, lacks m14.words refl refl) };
      fits = λ none. no_block m14.words 4 9 (none_before 2 4 refl (omega arith));
      named = second_key;
      says = refl;
      gives = refl;
    }))
    (λ h. omega arith)

-- it flags node 4
abbrev m16 : Machine
m16 = with_scene m15 1 (flag_scene m15 1 4 (iflag 3) (IFlagged 3))

p16 : IsPassed m16
unfolding descend
p16 = on m15 1 act.IFlag Won (flag_scene m15 1 4 (iflag 3) (IFlagged 3)) p15 there1 (λ h. h)
    (record {
      op = Insert 9 90;
      what = record { key = 9; value = 90; was = None };
      card = 3;
      parent = (record { node = 4; word = 11; tag = 1 });
      busy = refl;
      puts = refl;
      holds = refl;
      unflagged = refl;
      behind = refl;
      says = (flag_won m15 1 (record { node = 4; word = 11; tag = 1 }) (iflag 3) (IFlagged 3) refl).0;
      gives = (flag_won m15 1 (record { node = 4; word = 11; tag = 1 }) (iflag 3) (IFlagged 3) refl).1;
    }) (λ h. h)

-- and puts node 12 there
abbrev m17 : Machine
m17 = with_scene m16 1 (child_scene m16 1 4 false 12 (IChanged 3))

p17 : IsPassed m17
unfolding descend
p17 = changes m16 1 3 4 12 false p16 there1 refl refl refl refl refl refl

-- worker 2 takes the operation in hand
abbrev m18 : Machine
m18 = begins_at m17 2 (Delete 5)

p18 : IsPassed m18
unfolding descend
p18 = begins m17 2 (Delete 5) p17 there2 refl refl

-- it reads the update word of node 0
abbrev m19 : Machine
m19 = with_scene m18 2 (reads_scene m18 2 3 None)

p19 : IsPassed m19
unfolding descend
p19 = reads m18 2 0 3 None p18 there2 refl refl refl refl refl

-- it goes down to node 4
abbrev m20 : Machine
m20 = with_scene m19 2 (down_scene m19 2 (record { node = 0; word = 3; tag = 0 }) 4)

p20 : IsPassed m20
unfolding descend
p20 = goes_down m19 2 (Delete 5) (record { node = 0; word = 3; tag = 0 }) 4 p19 there2 refl refl refl refl refl refl refl

-- it reads the update word of node 4
abbrev m21 : Machine
m21 = with_scene m20 2 (reads_scene m20 2 12 (Some (IFlagged 3)))

p21 : IsPassed m21
unfolding descend
p21 = reads m20 2 4 12 (Some (IFlagged 3)) p20 there2 refl refl refl refl refl

-- it goes down to node 12
abbrev m22 : Machine
m22 = with_scene m21 2 (down_scene m21 2 (record { node = 4; word = 12; tag = 2 }) 12)

p22 : IsPassed m22
unfolding descend
p22 = goes_down m21 2 (Delete 5) (record { node = 4; word = 12; tag = 2 }) 12 p21 there2 refl refl refl refl refl refl refl

-- it reads the update word of node 12
abbrev m23 : Machine
m23 = with_scene m22 2 (reads_scene m22 2 3 None)

p23 : IsPassed m23
unfolding descend
p23 = reads m22 2 12 3 None p22 there2 refl refl refl refl refl

-- it goes down to node 8
abbrev m24 : Machine
m24 = with_scene m23 2 (down_scene m23 2 (record { node = 12; word = 3; tag = 0 }) 8)

p24 : IsPassed m24
unfolding descend
p24 = goes_down m23 2 (Delete 5) (record { node = 12; word = 3; tag = 0 }) 8 p23 there2 refl refl refl refl refl refl refl

-- it reads the update word of node 8
abbrev m25 : Machine
m25 = with_scene m24 2 (reads_scene m24 2 3 None)

p25 : IsPassed m25
unfolding descend
p25 = reads m24 2 8 3 None p24 there2 refl refl refl refl refl

-- it goes down to node 5
abbrev m26 : Machine
m26 = with_scene m25 2 (down_scene m25 2 (record { node = 8; word = 3; tag = 0 }) 5)

p26 : IsPassed m26
unfolding descend
p26 = goes_down m25 2 (Delete 5) (record { node = 8; word = 3; tag = 0 }) 5 p25 there2 refl refl refl refl refl refl refl

-- it claims a card
abbrev m27 : Machine
m27 = with_scene m26 2 (claims (scene m26 2) 0 (delete_filling 12 8 5 3))

p27 : IsPassed m27
unfolding descend
p27 = on m26 2 act.Claim Moved (claims (scene m26 2) 0 (delete_filling 12 8 5 3)) p26 there2 (λ h. h)
    (inr (record {
      key = 5;
      leaf = 5;
      parent = (record { node = 8; word = 3; tag = 0 });
      grandparent = (record { node = 12; word = 3; tag = 0 });
      deletes = refl;
      ready = inl refl;
      at = record { stands = refl; outer = λ e. (let h : 5 % 4 ≡ 0 = e in absurd (omega arith)); behind = refl; calm = refl };
      present = refl;
      above = refl;
      calm = refl;
      says = refl;
      gives = refl;
    }))
    (λ h. omega arith)

-- it flags node 12
abbrev m28 : Machine
m28 = with_scene m27 2 (flag_scene m27 2 12 (dflag 4) (DFlagged 4))

p28 : IsPassed m28
unfolding descend
p28 = on m27 2 act.DFlag Won (flag_scene m27 2 12 (dflag 4) (DFlagged 4)) p27 there2 (λ h. h)
    (record {
      key = 5;
      card = 4;
      grandparent = (record { node = 12; word = 3; tag = 0 });
      deletes = refl;
      holds = refl;
      unflagged = refl;
      above = refl;
      says = (flag_won m27 2 (record { node = 12; word = 3; tag = 0 }) (dflag 4) (DFlagged 4) refl).0;
      gives = (flag_won m27 2 (record { node = 12; word = 3; tag = 0 }) (dflag 4) (DFlagged 4) refl).1;
    }) (λ h. h)

-- marks node 8
abbrev m29 : Machine
m29 = with_scene m28 2 (update_scene m28 2 8 (marked 4) (Marked 4))

p29 : IsPassed m29
unfolding descend
p29 = marks m28 2 4 8 p28 there2 refl refl refl

-- cuts it out
abbrev m30 : Machine
m30 = with_scene m29 2 (child_scene m29 2 12 false 10 (Cut 4))

p30 : IsPassed m30
unfolding descend
p30 = cuts m29 2 4 12 10 false p29 there2 refl refl refl refl refl refl

-- and takes the flag away
abbrev pub m31 : Machine
m31 = with_scene m30 2 (update_scene m30 2 12 (clean 4) (DOver 4))

pub p31 : IsPassed m31
unfolding descend
p31 = ends m30 2 4 12 p30 there2 refl refl refl

use Rattle.std.proofs.Common.{◌≡◌, ◌≢◌, ◌+◌, ◌⊎◌, inl, inr, if◌then◌else◌, ◌||◌, Bool, true, false, Option, Some, None, refl, arith}
use Rattle.std.proofs.lemmas.Bool.{or_cases}
use Rattle.ell_core.specs.state.Machine.{idle, nobody}
use Rattle.ell_layout.specs.Words.{put}
use Rattle.ell_core.specs.statements.Premises.{entry_or, EveryTestParts, EveryPartingIsASplit, known_to_either, EveryUnionIsAJoin, united, IdleWorkersJoin}
use Rattle.ell_layout.proofs.lemmas.Writes.{put_same}
use Rattle.ell_core.proofs.lemmas.keeping.Seats.{put_first}
use Rattle.ell_core.specs.declared.view.Entry.{Entry}

-- an entry goes to one of two parts
part_entry : (entry : Option Entry) (goes : Bool)
    → (((if goes then entry else None) ≡ entry) × ((if goes then None else entry) ≡ None))
    ⊎ (((if goes then entry else None) ≡ None) × ((if goes then None else entry) ≡ entry))
part_entry entry true = inl (refl, refl)
part_entry entry false = inr (refl, refl)

-- so every test parts a ledger
pub test_parts : EveryTestParts
test_parts whole test key = part_entry (whole key) (test key)

-- an entry of two ledgers in one is that of one of them
unite_entry : (left right : Option Entry) → (left ≢ None → ¬ (right ≢ None))
    → ((left ≡ entry_or left right) × (right ≡ None)) ⊎ ((left ≡ None) × (right ≡ entry_or left right))
unite_entry None right apart = inr (refl, refl)
unite_entry (Some entry) None apart = inl (refl, refl)
unite_entry (Some entry) (Some other) apart = absurd (apart (λ e. cc) (λ e. cc))

-- the parts of an idle worker take its place and one at the end
pub parting_splits : EveryPartingIsASplit
parting_splits m i left right there free parts =
    let stays = idle left (m.worker i).shared (m.worker i).knows in
    let comes = idle right (m.worker i).shared (m.worker i).knows in
    record {
      after = record m { worker = put (put m.worker i stays) m.count comes; count = m.count + 1 };
      split = record {
        there = there;
        free = free;
        left = stays;
        right = comes;
        left_free = refl;
        right_free = refl;
        ledgers = parts;
        left_shares = refl;
        right_shares = refl;
        left_knows = λ fact h. h;
        right_knows = λ fact h. h;
        gives = refl;
      };
      stays = put_first m.worker i m.count stays comes (λ e. omega arith);
      comes = put_same (put m.worker i stays) m.count comes;
    }

-- idle workers in one take the place of the first
pub union_joins : EveryUnionIsAJoin
union_joins m i j both left_there right_there apart left_free right_free parts =
    let joined = idle both (λ key. (m.worker i).shared key || (m.worker j).shared key) (known_to_either (m.worker i).knows (m.worker j).knows) in
    record {
      after = record m { worker = put (put m.worker i joined) j nobody };
      join = record {
        left_there = left_there;
        right_there = right_there;
        apart = apart;
        left_free = left_free;
        right_free = right_free;
        both = joined;
        both_free = refl;
        ledgers = parts;
        shares = λ key. refl;
        knows = λ fact h. or_cases ((m.worker i).knows fact) ((m.worker j).knows fact) h;
        gives = refl;
      };
      stays = put_first m.worker i j joined nobody apart;
      goes = put_same (put m.worker i joined) j nobody;
    }

-- no two workers own one key, so that their ledgers unite
pub workers_join : IdleWorkersJoin
workers_join m stage i j sound left_there right_there apart left_free right_free =
    union_joins m i j (united (m.worker i).ledger (m.worker j).ledger) left_there right_there apart left_free right_free
    (λ key. unite_entry ((m.worker i).ledger key) ((m.worker j).ledger key)
    (λ left right. apart (sound.workers.one_owner i j key left right)))

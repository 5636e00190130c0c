use Rattle.std.proofs.Common.{◌≡◌, ℕ, ◌+◌, ◌-◌, ◌≤◌, List, [], ◌++◌, length, take, drop, Option, Result, Ok, Err, sym, ap, subst, ◌∙◌, arith}
use Rattle.std.proofs.KnownBytes.{Appends-kept, Appends-nil, Appends-trans}
use Rattle.std.proofs.lemmas.List.{append_assoc, length-append, length-take-le, take-append-drop, take_at, take_rest}
use Rattle.std.specs.Io.{WritesAtMost}
use Rattle.std.specs.Io.KnownBytes.{Appends, WriteAppends}
use Rattle.std.specs.Result.{result_unwrap_or}
use Rattle.ell_text.specs.Sending.{Sends, Stops}

-- what is left is sent next
pub Sends-trans : {a b c : Option (List ℕ)} {bytes middle left : List ℕ} {k m n : ℕ} → Sends a b bytes middle k m → Sends b c middle left m n → Sends a c bytes left k n
Sends-trans {left = left} p q =
    record {
      sent = p.sent ++ q.sent;
      out = Appends-trans _ _ _ p.sent q.sent p.out q.out;
      whole = p.whole ∙ ap (λ (xs : List ℕ). p.sent ++ xs) q.whole ∙ sym (append_assoc p.sent q.sent left);
      counted = omega (arith, length-append p.sent q.sent, p.counted, q.counted);
    }

-- more bytes come behind those that are left
pub Sends-more : {a b : Option (List ℕ)} {bytes left : List ℕ} {k m : ℕ} (more : List ℕ) → Sends a b bytes left k m → Sends a b (bytes ++ more) (left ++ more) k m
Sends-more {left = left} more p =
    record {
      sent = p.sent;
      out = p.out;
      whole = ap (λ (xs : List ℕ). xs ++ more) p.whole ∙ append_assoc p.sent left more;
      counted = p.counted;
    }

-- the count rises by what is no longer left
pub length-from_Sends : {a b : Option (List ℕ)} {bytes left : List ℕ} {k m : ℕ} → Sends a b bytes left k m → m + length left ≡ k + length bytes
length-from_Sends {left = left} p = omega (arith, ap length p.whole, length-append p.sent left, p.counted)

-- what is left is sent next, and some of it stays
pub Stops-then : {a b c : Option (List ℕ)} {bytes middle : List ℕ} {k m n : ℕ} → Sends a b bytes middle k m → Stops b c middle m n → Stops a c bytes k n
Stops-then p q = record { left = q.left; missing = q.missing; sends = Sends-trans p q.sends }

-- more bytes would have come
pub Stops-more : {a b : Option (List ℕ)} {bytes : List ℕ} {k m : ℕ} (more : List ℕ) → Stops a b bytes k m → Stops a b (bytes ++ more) k m
Stops-more more p =
    record { left = p.left ++ more; missing = omega (arith, p.missing, length-append p.left more); sends = Sends-more more p.sends }

-- the first bytes are out, as many as were counted
pub Appends-from_Stops : {a b : Option (List ℕ)} {bytes : List ℕ} {n : ℕ} → Stops a b bytes 0 n → Appends a b (take n bytes)
Appends-from_Stops {a} {b} {bytes} {n} p =
    let first : take n bytes ≡ p.sends.sent = ap (take n) p.sends.whole ∙ take_at p.sends.sent p.left n (omega (arith, p.sends.counted)) in
    subst (Appends a b) (sym first) p.sends.out

-- the writer took the first n of the bytes
Sends-front : {a b : Option (List ℕ)} (bytes : List ℕ) (k n : ℕ) → n ≤ length bytes → Appends a b (take n bytes) → Sends a b bytes (take (length bytes - n) (drop n bytes)) k (k + n)
Sends-front bytes k n within out =
    record {
      sent = take n bytes;
      out = out;
      whole = sym (take-append-drop n bytes) ∙ ap (λ (xs : List ℕ). take n bytes ++ xs) (sym (take_rest bytes n));
      counted = omega (arith, length-take-le n bytes within);
    }

-- One write. At an error it takes no byte.
pub Sends-write : {E : Type 0} {a b : Option (List ℕ)} (bytes : List ℕ) (k taken : ℕ) (r : Result ℕ E)
    → taken ≡ result_unwrap_or r 0 → WritesAtMost r bytes → WriteAppends a b r bytes → Sends a b bytes (take (length bytes - taken) (drop taken bytes)) k (k + taken)
Sends-write {a = a} {b = b} bytes k taken (Ok n) is within appends =
    subst (λ (x : ℕ). Sends a b bytes (take (length bytes - x) (drop x bytes)) k (k + x)) (sym is) (Sends-front bytes k n within appends)
Sends-write {a = a} {b = b} bytes k taken (Err e) is within keeps =
    let nothing = Appends-kept a a b [] (Appends-nil a) keeps in
    subst (λ (x : ℕ). Sends a b bytes (take (length bytes - x) (drop x bytes)) k (k + x)) (sym is) (Sends-front bytes k 0 (omega arith) nothing)

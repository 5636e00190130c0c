use Rattle.std.proofs.Common.{◌≡◌, ◌+◌, ℕ, List, ◌++◌, take, drop, Option, None, Some, sym, ap, ◌∙◌}
use Rattle.std.proofs.Math.Seq.{take-add}
use Rattle.std.proofs.lemmas.List.{append_assoc}
use Rattle.std.specs.Io.KnownBytes.{Consumes}

-- a read gave m bytes after the first n, which stayed
pub given_more : (a b c : Option (List ℕ)) (xs ys : List ℕ) (n m : ℕ) → take n ys ≡ take n xs → Consumes a b (take n xs) → Consumes b c (take m (drop n ys))
    → Consumes a c (take (n + m) ys)
given_more None b c xs ys n m front before read = tt
given_more (Some x) None c xs ys n m front before read = absurd before
given_more (Some x) (Some y) None xs ys n m front before read = absurd read
given_more (Some x) (Some y) (Some z) xs ys n m front before read =
    before ∙ ap (λ bytes. take n xs ++ bytes) read ∙ ap (λ bytes. bytes ++ (take m (drop n ys) ++ z)) (sym front)
    ∙ sym (append_assoc (take n ys) _ _) ∙ ap (λ bytes. bytes ++ z) (sym (take-add n m ys))

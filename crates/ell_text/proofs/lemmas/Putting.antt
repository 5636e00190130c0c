use Rattle.std.proofs.Common.{◌≡◌, ℕ, ◌+◌, ◌<◌, List, [], ◌++◌, length, get_or, take, drop, Option, Result, Ok, Err, IsErrAnd, OnOk, arith, sym, subst, ap, ◌∙◌}
use Rattle.std.proofs.lemmas.List.{append_assoc, append-nil, length-append, take-append-drop}
use Rattle.std.proofs.lemmas.List.Concat.{flat_map-append}
use Rattle.std.specs.Io.KnownBytes.{Appends}
use Rattle.std.specs.List.{flat_map}
use Rattle.ell_ops.proofs.lemmas.Places.{flat_map-take_more}
use Rattle.ell_text.specs.declared.output.Output.{Output}
use Rattle.ell_text.specs.declared.output.WriteFault.{WriteFault}
use Rattle.ell_text.specs.Output.{HasPut, IsWritten, waiting_bytes, Puts, Faults}
use Rattle.ell_text.specs.Sending.{Sends, Stops}
use Rattle.ell_text.proofs.lemmas.Sending.{Appends-from_Stops, Sends-more, Sends-trans, Stops-more, Stops-then}

-- one text, and then another
pub Puts-then : {a b c : Option (List ℕ)} {x y z : Output} {done text : List ℕ} → Puts a b x y done → Puts b c y z text → Puts a c x z (done ++ text)
Puts-then {a} {c = c} {x = x} {z = z} {done = done} {text = text} p q =
    let sends = Sends-trans (Sends-more text p.sends) q.sends in
    record { sends = subst (λ (bytes : List ℕ). Sends a c bytes (waiting_bytes z) x.written z.written) (append_assoc (waiting_bytes x) done text) sends }

-- one text, and a fault at the next
pub Faults-then : {a b c : Option (List ℕ)} {x y : Output} {done text : List ℕ} {fault : WriteFault} → Puts a b x y done → Faults b c y text fault → Faults a c x (done ++ text) fault
Faults-then {a} {c = c} {x = x} {done = done} {text = text} {fault = fault} p q =
    let stops = Stops-then (Sends-more text p.sends) q.stops in
    record { stops = subst (λ (bytes : List ℕ). Stops a c bytes x.written fault.written) (append_assoc (waiting_bytes x) done text) stops }

-- a fault while the end of the text waits
pub Faults-at_end : {a b c : Option (List ℕ)} {x y : Output} {text : List ℕ} {fault : WriteFault} → Puts a b x y text → Faults b c y [] fault → Faults a c x text fault
Faults-at_end {a} {c = c} {x = x} {text = text} {fault = fault} p q = subst (λ (xs : List ℕ). Faults a c x xs fault) (append-nil text) (Faults-then p q)

-- a fault, where more text would have come
pub Faults-more : {a b : Option (List ℕ)} {x : Output} {text : List ℕ} {fault : WriteFault} (more : List ℕ) → Faults a b x text fault → Faults a b x (text ++ more) fault
Faults-more {a} {b} {x} {text} {fault} more p =
    record { stops = subst (λ (bytes : List ℕ). Stops a b bytes x.written fault.written) (append_assoc (waiting_bytes x) text more) (Stops-more more p.stops) }

-- a fault that is passed on
pub HasPut-failed : {X : Type 0} {a b : Option (List ℕ)} {x y : Output} {text : List ℕ} (result : Result X WriteFault) (fault : WriteFault)
    → IsErrAnd result (λ y. y ≡ fault) → Faults a b x text fault → HasPut a b x y text result
HasPut-failed (Ok done) fault is told = absurd is
HasPut-failed {a = a} {b = b} {x = x} {text = text} (Err error) fault is told = record { ok = tt; fault = subst (Faults a b x text) (sym is) told }

-- one text, and then what comes of another
pub HasPut-then : {X : Type 0} {a b c : Option (List ℕ)} {x y z : Output} {done text : List ℕ} (result : Result X WriteFault)
    → Puts a b x y done → HasPut b c y z text result → HasPut a c x z (done ++ text) result
HasPut-then (Ok unit) p put = record { ok = Puts-then p put.ok; fault = tt }
HasPut-then (Err error) p put = record { ok = tt; fault = Faults-then p put.fault }

-- From an output that began empty the first bytes of the text are out, as many as were counted.
pub Appends-from_Faults : {a b : Option (List ℕ)} {x : Output} {text : List ℕ} {fault : WriteFault} → waiting_bytes x ≡ [] → x.written ≡ 0
    → Faults a b x text fault → Appends a b (take fault.written text)
Appends-from_Faults {a} {b} {x} {text} {fault} empty none p =
    let stops = subst (λ (waits : List ℕ). Stops a b (waits ++ text) x.written fault.written) empty p.stops in
    Appends-from_Stops (subst (λ (k : ℕ). Stops a b text k fault.written) none stops)

-- from an output that began empty the text is out, where nothing waits behind it
Appends-from_Puts : {a b : Option (List ℕ)} {x y : Output} {text : List ℕ} → waiting_bytes x ≡ [] → waiting_bytes y ≡ [] → Puts a b x y text → Appends a b text
Appends-from_Puts {a} {b} {text = text} empty none p =
    let sent = p.sends.sent in
    let whole : sent ≡ text = sym (append-nil sent) ∙ ap (λ (waits : List ℕ). sent ++ waits) (sym none) ∙ sym p.sends.whole ∙ ap (λ (waits : List ℕ). waits ++ text) empty in
    subst (Appends a b) whole p.sends.out

-- after a fault some of the text is missing
missing-from_Faults : {a b : Option (List ℕ)} {x : Output} {text : List ℕ} {fault : WriteFault} → waiting_bytes x ≡ [] → x.written ≡ 0 → Faults a b x text fault
    → fault.written < length text
missing-from_Faults {x = x} {text = text} {fault = fault} empty none p =
    let stops = p.stops in
    let whole : text ≡ stops.sends.sent ++ stops.left = sym (ap (λ (waits : List ℕ). waits ++ text) empty) ∙ stops.sends.whole in
    omega (arith, ap length whole, length-append stops.sends.sent stops.left, stops.missing, stops.sends.counted, none)

-- a text that was put in an output that began empty is written by the flush behind it
pub IsWritten-flushed : {X : Type 0} {a b c : Option (List ℕ)} {x y z : Output} {text : List ℕ} (result : Result X WriteFault) → waiting_bytes x ≡ [] → x.written ≡ 0
    → Puts a b x y text → HasPut b c y z [] result → OnOk result (z.filled ≡ 0) → IsWritten a c text result
IsWritten-flushed {a = a} {c = c} {x = x} {z = z} {text = text} (Ok unit) empty none p put done =
    let whole = subst (λ (bytes : List ℕ). Puts a c x z bytes) (append-nil text) (Puts-then p put.ok) in
    record { ok = Appends-from_Puts empty (ap (λ n. take n z.bytes) done) whole; fault = tt; missing = tt }
IsWritten-flushed (Err error) empty none p put done =
    let faults = Faults-at_end p put.fault in record { ok = tt; fault = Appends-from_Faults empty none faults; missing = missing-from_Faults empty none faults }

-- the front of the rest came to what waited, before it all goes out
pub Sends-kept : {a b : Option (List ℕ)} {bytes front back kept : List ℕ} {k m m' : ℕ} (old rest : List ℕ) (n : ℕ) → Sends a b bytes (old ++ rest) k m
    → kept ≡ old ++ front → front ≡ take n rest → back ≡ drop n rest → m' ≡ m → Sends a b bytes (kept ++ [] ++ back) k m'
Sends-kept {a} {b} {bytes} {front} {back} {kept} {k} {m' = m'} old rest n p is_kept is_front is_back same =
    let whole : rest ≡ front ++ back = rw (is_front, is_back, take-append-drop) in
    let regrouped : old ++ rest ≡ kept ++ [] ++ back = rw (append-nil, is_kept, append_assoc) (ap (λ (xs : List ℕ). old ++ xs) whole) in
    subst (λ (left : List ℕ). Sends a b bytes left k m') regrouped (subst (Sends a b bytes (old ++ rest) k) (sym same) p)

-- the lines of the items so far, and then the line of the next
pub Puts-line : {X : Type 0} {a b c : Option (List ℕ)} {x y z : Output} (line : X → List ℕ) (items : List X) (i : ℕ) (item : X) → i < length items
    → Puts a b x y (flat_map line (take i items)) → Puts b c y z (line (get_or items i item)) → Puts a c x z (flat_map line (take (i + 1) items))
Puts-line {a = a} {c = c} {x = x} {z = z} line items i item within p q =
    subst (Puts a c x z) (sym (flat_map-take_more line items i item within)) (Puts-then p q)

-- a fault at the line of the next item
pub Faults-line : {X : Type 0} {a b c : Option (List ℕ)} {x y : Output} {fault : WriteFault} (line : X → List ℕ) (items : List X) (i : ℕ) (item : X) → i < length items
    → Puts a b x y (flat_map line (take i items)) → Faults b c y (line (get_or items i item)) fault → Faults a c x (flat_map line items) fault
Faults-line {a = a} {c = c} {x = x} {fault = fault} line items i item within p q =
    let P : List ℕ → Type 0 = λ text. Faults a c x text fault in
    let others = flat_map line (drop (i + 1) items) in
    let reached = subst P (sym (flat_map-take_more line items i item within)) (Faults-then p q) in
    let whole = sym (flat_map-append line (take (i + 1) items) (drop (i + 1) items)) ∙ ap (flat_map line) (take-append-drop (i + 1) items) in
    subst P whole (Faults-more others reached)

use Rattle.std.proofs.Common.{◌≡◌, ℕ, ◌<◌, List, Some, length, arith, refl, ap, sym, ◌∙◌}
use Rattle.std.specs.Prelude.{slice_get}
use Rattle.std.proofs.lemmas.Option.{slice_get-get_or, slice_get_within}
use Rattle.ell_ops.specs.declared.op.Op.{Op}
use Rattle.ell_ops.specs.Contents.{Contents}
use Rattle.ell_ops.specs.Meaning.{replies}
use Rattle.ell_parts.specs.declared.gathering.GatherFault.{GatherFault}
use Rattle.ell_parts.specs.declared.gathering.GatherFault.TheVariants.{Stranger, Doubled, Missing, NoMemory}
use Rattle.ell_parts.specs.Gathering.{AreSound, IsFault, IsFor, IsGathered}
use Rattle.ell_order.proofs.lemmas.Reordered.{length-replies, lists_alike}
use Rattle.ell_ops.specs.declared.reply.Reply.{Reply}

-- items have just one reply for each position of a list, that of one thread from a set
pub record AreAnswers (start : Contents) (ops : List Op) (items : List (ℕ × Reply)) : Type 0 where
  pub sound : AreSound (length ops) items (length items)
  pub cover : (position : ℕ) → position < length ops → (j : ℕ) × IsFor items j position
  pub told : (k position : ℕ) (reply : Reply) → slice_get items k ≡ Some (position, reply) → slice_get (replies start ops) position ≡ Some reply

-- so only memory can be wanting
pub only_memory : (start : Contents) (ops : List Op) (items : List (ℕ × Reply)) → AreAnswers start ops items → (fault : GatherFault) → IsFault (length ops) items fault → fault ≡ NoMemory
only_memory start ops items a (Stranger at) f =
    let sound = a.sound f.0 at (slice_get_within items f.0 (at, f.1.0) f.1.1) f.1 in
    let below = sound.0 in
    let past = f.3 in
    absurd (omega arith)
only_memory start ops items a (Doubled at) f =
    let sound = a.sound f.0 at (slice_get_within items f.0 (at, f.2.0) f.2.1) f.2 in
    absurd (sound.1 f.1 f.5 f.6)
only_memory start ops items a (Missing at) f =
    let has = a.cover at f.1 in
    absurd (f.2 has.0 (slice_get_within items has.0 (at, has.1.0) has.1.1) has.1)
only_memory start ops items a NoMemory f = refl

-- gathered replies are those of one thread
pub gathered : (start : Contents) (ops : List Op) (items : List (ℕ × Reply)) → AreAnswers start ops items → (said : List Reply) → IsGathered (length ops) items said → said ≡ replies start ops
gathered start ops items a said g =
    lists_alike said (replies start ops) (g.count ∙ sym (length-replies start ops))
    (λ i reply e.
    let item = g.each i reply e in
    a.told item.0 i reply (slice_get-get_or items item.0 (i, reply) item.1 ∙ ap Some item.2))

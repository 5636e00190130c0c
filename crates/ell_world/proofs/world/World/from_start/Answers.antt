use Rattle.std.proofs.Common.{◌∙◌, ap, sym, false, inl}
use Rattle.std.proofs.lemmas.List.{length-map}
use Rattle.std.proofs.lemmas.Bool.{false≢true}
use Rattle.ell_layout.specs.Words.{Words}
use Rattle.ell_world.specs.Inside.{view_of}
use Rattle.ell_world.specs.WorldInside.{value_in}
use Rattle.ell_world.proofs.lemmas.NewWorld.{machine_of-opening, opening_lawful}
use Rattle.ell_world.proofs.world.World.from_start.Goals as goal

pub invariant_of-result : goal.invariant_of-result
invariant_of-result g c =
    let memory = c.in_ok-memory.ensures in
    record {
      size = memory.sized.size;
      limit = memory.sized.limit;
      plain = ap (λ (w : Words). w.flat_from) memory.words;
      lawful = opening_lawful (value_in (record { alloc = c.args.alloc; memory = c.in_ok-memory.memory; workers = c.in_ok-workers.workers }))
          (record { count = c.args.workers; owned = c.args.owned.now; start = c.args.start.now; cards = c.args.cards; shared = λ _. false; flat = false }) memory.words
          (length-map c.in_ok-workers.workers.items view_of ∙ sym c.in_ok-workers.workers.ok.0 ∙ c.in_ok-workers.ensures.count) memory.last_card c.in_ok-workers.ensures.ledgers
          (record {
            faultless = c.in_ok-workers.ensures.faultless;
            real = c.requires.keys;
            ascending = c.requires.ascending;
            given = λ i d below. inl (c.requires.given i d below);
            apart = λ k shared. absurd (false≢true shared);
          });
    }

pub returns-clause-opening : goal.returns-clause-opening
returns-clause-opening g c =
    let memory = c.in_ok-memory.ensures in
    let workers = c.in_ok-workers.workers in
    machine_of-opening
    (value_in (record { alloc = c.args.alloc; memory = c.in_ok-memory.memory; workers = workers }))
    (record { count = c.args.workers; owned = c.args.owned.now; start = c.args.start.now; cards = c.args.cards; shared = λ _. false; flat = false }) memory.words
    (length-map workers.items view_of ∙ sym workers.ok.0 ∙ c.in_ok-workers.ensures.count) memory.last_card c.in_ok-workers.ensures.ledgers

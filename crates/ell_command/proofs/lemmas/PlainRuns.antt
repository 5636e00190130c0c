use Rattle.std.proofs.Common.{◌≡◌, ◌∙◌, ℕ, Bool, List, Option, Some, None, [], ◌∷◌, refl, sym, subst, ap, true, false, codes}
use Rattle.std.specs.Prelude.{unwrap_or}
use Rattle.clap.specs.Walk.{Row, Text}
use Rattle.clap.specs.Walk.{first_of, one_of}
use Rattle.clap.proofs.OnLiterals.{clap_on_literals}
use Rattle.ell_run.specs.declared.settings.Parting.{Parting}
use Rattle.ell_run.specs.declared.settings.Parting.TheVariants.{Range, Stripe}
use Rattle.ell_command.specs.declared.request.Request.{Request}
use Rattle.ell_command.specs.declared.request.Request.TheVariants.{Replay, Run}
use Rattle.ell_command.specs.CommandLine.{AsksToReplay, AsksToRun, IsPlainRun, IsRequestOf, app_at, name_of, number_said, options_of, subcommand_for, subcommand_in}
use Rattle.ell_command.proofs.lemmas.WrittenOut.{replay_is_named, run_is_named}

abbrev plain_options : List Row
plain_options = options_of (codes "run" ∷ [])

plain_workers : number_said (one_of (codes "workers") plain_options) ≡ Some 4
unfolding clap_on_literals app_at
plain_workers = refl

plain_parting : first_of (codes "parting") plain_options ≡ Some (codes "stripe")
unfolding clap_on_literals app_at
plain_parting = refl

plain_cards : number_said (one_of (codes "cards") plain_options) ≡ None
unfolding clap_on_literals app_at
plain_cards = refl

plain_tries : number_said (one_of (codes "tries") plain_options) ≡ Some 1000
unfolding clap_on_literals app_at
plain_tries = refl

plain_report : one_of (codes "report") plain_options ≡ Some (codes "false")
unfolding clap_on_literals app_at
plain_report = refl

-- two names of one number
same_number : (o : Option ℕ) (a b : ℕ) → o ≡ Some a → o ≡ Some b → a ≡ b
same_number o a b left right = ap (λ x. unwrap_or x a) (sym left ∙ right)

stripe_named : (parting : Parting) → Some (codes "stripe") ≡ Some (name_of parting) → parting ≡ Stripe
stripe_named Stripe is = refl
stripe_named Range is = absurd (cc)

unset : (flag : Bool) (o : Option Text) → o ≡ Some (codes "false") → (flag ≡ true → o ≡ Some (codes "true")) → flag ≡ false
unset false o off wants = refl
unset true o off wants =
    let bad : Some (codes "false") ≡ Some (codes "true") = sym off ∙ wants refl in
    absurd (cc)

-- the one word `run` asks for the default settings, and no report
pub plain_run : (words : List Text) (request : Request) → AsksToRun words → subcommand_in words ≡ Some (subcommand_for request) → IsRequestOf (options_of words) request → IsPlainRun request
plain_run words Replay is named request =
    let bad : Some (codes "run") ≡ Some (codes "replay") = sym run_is_named ∙ (ap subcommand_in (sym is) ∙ named) in
    absurd (cc)
plain_run words (Run settings report) is named request =
    let (ranges, said, wants) = subst (λ (ws : List Text). IsRequestOf (options_of ws) (Run settings report)) is request in (
      same_number _ _ _ said.workers plain_workers,
      stripe_named settings.parting (sym plain_parting ∙ said.parting),
      sym said.cards ∙ plain_cards,
      same_number _ _ _ said.tries plain_tries,
      unset report _ plain_report wants.0,
    )

-- the one word `replay` asks for a replay
pub plain_replay : (words : List Text) (request : Request) → AsksToReplay words → subcommand_in words ≡ Some (subcommand_for request) → request ≡ Replay
plain_replay words Replay is named = refl
plain_replay words (Run settings report) is named =
    let bad : Some (codes "replay") ≡ Some (codes "run") = sym replay_is_named ∙ (ap subcommand_in (sym is) ∙ named) in
    absurd (cc)

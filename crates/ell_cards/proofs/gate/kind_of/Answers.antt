use Rattle.std.proofs.Common.{◌≡◌, ℕ, Bool, true, ◌∷◌, ◌++◌, ap, refl, sym, subst}
use Rattle.ell_word.specs.Word.{unpacked}
use Rattle.ell_core.specs.declared.exchange.Exchange.{Exchange}
use Rattle.ell_core.specs.declared.exchange.Exchange.TheVariants as exchange
use Rattle.ell_core.specs.declared.fact.Fact.TheVariants as fact
use Rattle.ell_runs.specs.declared.call.Call.{Call}
use Rattle.ell_runs.specs.declared.view.View.{View}
use Rattle.ell_runs.specs.Calls.{after, atomic_of, is_won}
use Rattle.ell_runs.specs.Calls as atomic
use Rattle.ell_runs.specs.Changes.{after_claim, after_flag, after_mark, if_won}
use Rattle.ell_cards.specs.StepKinds.{IsExchange}
use Rattle.ell_cards.proofs.gate.kind_of.Goals as goal

-- a call that is this one, which is an exchange, is that exchange
is_exchange : (k : Exchange) (card expected value : ℕ) (d : Call) → atomic_of d ≡ atomic.Exchange expected value
    → ((n : ℕ) (v : View) → is_won (atomic_of d) n ≡ true → (after d n v).won ≡ (k, card) ∷ v.won) → (c : Call) → c ≡ d → IsExchange c k
is_exchange k card expected value d does wins c is =
    subst (λ x. IsExchange x k) (sym is) (record { expected = expected; value = value; does = does; card = card; wins = wins })

-- a won exchange that changes nothing else of what was won
won_last : (k : Exchange) (card : ℕ) (v : View) (b : Bool) → b ≡ true → if_won b k card ++ v.won ≡ (k, card) ∷ v.won
won_last k card v b won = ap (λ b. if_won b k card ++ v.won) won

pub returns-in-Claim : goal.returns-in-Claim
returns-in-Claim c = is_exchange exchange.Claim _ _ _ _ refl
    (λ n v won. ap (λ b. (after_claim b c.in-Claim.field-0 c.in-Claim.field-1 v).won) won) _ c.in-Claim.is

pub returns-in-IFlag : goal.returns-in-IFlag
returns-in-IFlag c = let d = c.in-IFlag.field-0 in is_exchange exchange.IFlag _ _ _ _ refl
    (λ n v won. ap (λ b. if_won b exchange.IFlag d ++ (after_flag b (fact.IFlagged d) c.in-IFlag.field-1 (unpacked n) v).won) won) _ c.in-IFlag.is

pub returns-in-IChild : goal.returns-in-IChild
returns-in-IChild c = is_exchange _ _ _ _ _ refl (λ n v. won_last exchange.IChild _ v _) _ c.in-IChild.is

pub returns-in-IUnflag : goal.returns-in-IUnflag
returns-in-IUnflag c = is_exchange _ _ _ _ _ refl (λ n v. won_last exchange.IUnflag _ v _) _ c.in-IUnflag.is

pub returns-in-DFlag : goal.returns-in-DFlag
returns-in-DFlag c = let d = c.in-DFlag.field-0 in is_exchange exchange.DFlag _ _ _ _ refl
    (λ n v won. ap (λ b. if_won b exchange.DFlag d ++ (after_flag b (fact.DFlagged d) c.in-DFlag.field-1 (unpacked n) v).won) won) _ c.in-DFlag.is

pub returns-in-Mark : goal.returns-in-Mark
returns-in-Mark c = let d = c.in-Mark.field-0 in is_exchange exchange.Mark _ _ _ _ refl
    (λ n v won. ap (λ b. if_won b exchange.Mark d ++ (after_mark b d c.in-Mark.field-1 (unpacked n) v).won) won) _ c.in-Mark.is

pub returns-in-DChild : goal.returns-in-DChild
returns-in-DChild c = is_exchange _ _ _ _ _ refl (λ n v. won_last exchange.DChild _ v _) _ c.in-DChild.is

pub returns-in-DUnflag : goal.returns-in-DUnflag
returns-in-DUnflag c = is_exchange _ _ _ _ _ refl (λ n v. won_last exchange.DUnflag _ v _) _ c.in-DUnflag.is

pub returns-in-Backtrack : goal.returns-in-Backtrack
returns-in-Backtrack c = is_exchange _ _ _ _ _ refl (λ n v. won_last exchange.Backtrack _ v _) _ c.in-Backtrack.is

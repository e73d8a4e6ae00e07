-- Deposit: x to member m (document 01, "Deposit"; codes 1, 2, 4, 7). The new balance is told.
use Rattle.std.specs.Prelude.{Bool, not, List, [], ◌∷◌, ℕ, ◌-◌, ℤ, pos, ◌+ℤ◌, set, Ok, Err, Result}
use Rattle.std.specs.Int.Signed.{le_z}
use Rattle.tables.specs.Sizes.{most}
use Rattle.tables.specs.Layout.{Tables, tables, balance_of, money_of}
use Rattle.answers.specs.Codes.{Test, test, is_member, is_amount}
use Rattle.answers.specs.Outcome.{Act, outcome}
use Rattle.answers.specs.declared.Refusal.TheVariants.{Member, Amount, Money}
use Rattle.answers.specs.declared.Refusal.{Refusal}

-- the sum of balances would be above 10^15
abbrev pub too_much : List ℤ → ℕ → Bool
too_much a x = not (le_z (money_of a +ℤ pos x) (pos most))

abbrev pub deposit_tests : List ℤ → List ℕ → ℕ → ℕ → List Test
deposit_tests a c m x = test (not (is_member c m)) Member ∷ test (not (is_amount x)) Amount ∷ test (too_much a x) Money ∷ []

-- the tables with the deposit
unfoldable pub deposited_in : Tables → ℕ → ℕ → Tables
deposited_in T m x = tables (set T.accounts (m - 1) (balance_of T.accounts (m - 1) +ℤ pos x)) T.counters T.pays

unfoldable pub deposit_act : ℕ → ℕ → Act (Result ℤ Refusal)
deposit_act m x = record {
  refuse = Err;
  tests = λ T. deposit_tests T.accounts T.counters m x;
  does = λ T. outcome (Ok (balance_of T.accounts (m - 1) +ℤ pos x)) (deposited_in T m x);
}

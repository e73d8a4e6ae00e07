-- The closing lines: of states that hold equal houses they are the same bytes, and the last of them is the money line.
use mathlib.Core.Path.{◌≡◌, refl, sym, ap, ◌∙◌}
use mathlib.Core.Bool.{Bool, true, false}
use mathlib.Core.List.{List, [], ◌∷◌, ◌++◌, append-nil, append_assoc}
use Prim.Native.Nat.{ℕ, zero, suc, ◌+◌, ◌-◌, ◌≤◌, ◌<◌}
use lib.IntN.{ℤ, pos}
use native.Mathlib.Omega.{arith}
use borrow.Author.Tests.{ltb-true, ltb-false}
use lib.Dec.{ltb}
use lib.ListN.{length}
use Rattle.rule.specs.Lists.{listing}
use Rattle.rule.specs.House.{House, waits, Same, money}
use Rattle.rule.proofs.Ints.{plus-zero}
use Rattle.rule.proofs.Money.{money-same}
use Rattle.tables.specs.Sizes.{members}
use Rattle.tables.specs.Layout.{Tables, members_in, house_in, balance_of, money_of}
use Rattle.tables.specs.Holds.{Holds}
use Rattle.sheet.specs.declared.Says.{Says}
use Rattle.sheet.specs.declared.Says.TheVariants as S
use Rattle.sheet.specs.Lines.{text_of}
use Rattle.night.specs.Lines.{balance_says}
use Rattle.desk.specs.Sheet.{texts_of}
use Rattle.days.specs.Days.{Equal}
use Rattle.nights.specs.Files.{closing_of, closing_in}

listing-same : {A : Type 0} (n : ℕ) (f g : ℕ → A) → ((i : ℕ) → i < n → f i ≡ g i) → listing n f ≡ listing n g
unfolding listing
listing-same zero f g e = refl
listing-same (suc n) f g e = rw (e 0 (omega arith), listing-same n (λ i. f (suc i)) (λ i. g (suc i)) (λ i l. e (suc i) (omega arith)))

module _ {W X : Tables} (h : Holds W) (k : Holds X) (e : Equal W X) where
  balance-same : (i : ℕ) → i < members → balance_of X.accounts i ≡ balance_of W.accounts i
  balance-same i l = go (ltb i (members_in W)) refl
    where
      go : (b : Bool) → ltb i (members_in W) ≡ b → balance_of X.accounts i ≡ balance_of W.accounts i
      go true q = e.same.balances i (ltb-true i (members_in W) q)
      go false q = let m = ltb-false i (members_in W) q in k.accounts.no_balance i (omega (arith, e.members)) l ∙ sym (h.accounts.no_balance i (omega arith) l)

  says_same : (i : ℕ) → i < members_in W → balance_says X i ≡ balance_says W i
  says_same i l =
      ap (λ z. S.Balance (i + 1) z (length (queue X i))) (e.same.balances i l)
      ∙ ap (λ (q : List ℕ). S.Balance (i + 1) (balance_of W.accounts i) (length q)) (e.same.queues i l)
    where
      queue : Tables → ℕ → List ℕ
      queue t j = (house_in t).queue j

  -- equal houses have the same closing lines
  pub closing_same : closing_of X ≡ closing_of W
  closing_same =
      ap (λ n. texts_of (listing n (balance_says X) ++ (S.Money (money_of X.accounts) ∷ []))) e.members
      ∙ ap (λ l. texts_of (l ++ (S.Money (money_of X.accounts) ∷ []))) (listing-same (members_in W) (balance_says X) (balance_says W) says_same)
      ∙ ap (λ z. texts_of (listing (members_in W) (balance_says W) ++ (S.Money z ∷ []))) (money-same members (balance_of W.accounts) (balance_of X.accounts) balance-same)

texts-join : (ss : List Says) (s : Says) → texts_of (ss ++ (s ∷ [])) ≡ texts_of ss ++ text_of s
texts-join [] s = append-nil (text_of s)
texts-join (r ∷ ss) s = ap (λ (t : List ℕ). text_of r ++ t) (texts-join ss s) ∙ sym (append_assoc (text_of r) (texts_of ss) (text_of s))

-- the last of them is the money line
pub closing-money : (t : Tables) → closing_of t ≡ texts_of (listing (members_in t) (balance_says t)) ++ text_of (S.Money (money_of t.accounts))
closing-money t = texts-join (listing (members_in t) (balance_says t)) (S.Money (money_of t.accounts))

-- ---- the closing lines of a house

money-past : (n k : ℕ) (b : ℕ → ℤ) → ((i : ℕ) → n ≤ i → i < n + k → b i ≡ pos 0) → money (n + k) b ≡ money n b
money-past n zero b e = let q : n + 0 ≡ n = omega arith in ap (λ j. money j b) q
money-past n (suc k) b e =
    let s : n + suc k ≡ suc (n + k) = omega arith in
    ap (λ j. money j b) s ∙ rw (e (n + k) (omega arith) (omega arith), money-past n k b (λ i l h. e i l (omega arith))) (plus-zero (money n b))

-- the closing lines say the house that the tables hold
pub closing-house : {W : Tables} → Holds W → closing_of W ≡ closing_in (members_in W) (house_in W)
closing-house {W} h =
    let q : members_in W + (members - members_in W) ≡ members = omega (arith, h.counters.few) in
    let m : money members (balance_of W.accounts) ≡ money (members_in W) (balance_of W.accounts) =
    ap (λ j. money j (balance_of W.accounts)) (sym q) ∙ money-past (members_in W) (members - members_in W) (balance_of W.accounts) (λ i l k. h.accounts.no_balance i l (omega (arith, q))) in
    ap (λ z. texts_of (listing (members_in W) (balance_says W) ++ (S.Money z ∷ []))) m

-- houses that are the same at the members have the same closing lines
pub closing-alike : (n : ℕ) (H X : House) → Same n H X → closing_in n X ≡ closing_in n H
closing-alike n H X s =
    ap (λ l. texts_of (l ++ (S.Money (money n X.balance) ∷ [])))
    (listing-same n (λ i. S.Balance (i + 1) (X.balance i) (waits X i)) (λ i. S.Balance (i + 1) (H.balance i) (waits H i))
    (λ i l. ap (λ z. S.Balance (i + 1) z (waits X i)) (s.balances i l) ∙ ap (λ (q : List ℕ). S.Balance (i + 1) (H.balance i) (length q)) (s.queues i l)))
    ∙ ap (λ z. texts_of (listing n (λ i. S.Balance (i + 1) (H.balance i) (waits H i)) ++ (S.Money z ∷ []))) (money-same n H.balance X.balance s.balances)

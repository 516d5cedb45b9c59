-- A table of bytes is held against a test at each of the 256 bytes, by computing.
use Rattle.std.proofs.Common.{◌≡◌, ℕ, zero, suc, ◌<◌, Bool, true, ◌&&◌, arith}
use Rattle.std.specs.Bool.{beq}
use Rattle.std.proofs.lemmas.Bool.{cases_eq}

-- the two tests agree below this number
unfoldable pub agree : (ℕ → Bool) → (ℕ → Bool) → ℕ → Bool
agree one other zero = true
agree one other (suc n) = beq (one n) (other n) && agree one other n

pub agree-at : (one other : ℕ → Bool) (n : ℕ) → agree one other n ≡ true → (b : ℕ) → b < n → one b ≡ other b
unfolding agree
agree-at one other zero h b below = absurd (omega arith)
agree-at one other (suc n) h b below = grind (arith, agree-at one other n, cases_eq)

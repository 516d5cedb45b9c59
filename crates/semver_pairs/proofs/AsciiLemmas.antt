-- A part of ASCII bytes is ASCII.
use Rattle.std.proofs.Common.{ℕ, zero, suc, List, [], ◌∷◌, ◌++◌, take, drop, arith, sym, subst, take-append-drop}
use Rattle.std.specs.Str.{IsAscii}

pub ascii-before : (one other : List ℕ) → IsAscii (one ++ other) → IsAscii one
ascii-before [] other all i = omega arith
ascii-before (b ∷ one) other all zero = all zero
ascii-before (b ∷ one) other all (suc i) = ascii-before one other (λ k. all (suc k)) i

pub ascii-past : (one other : List ℕ) → IsAscii (one ++ other) → IsAscii other
ascii-past [] other all = all
ascii-past (b ∷ one) other all = ascii-past one other (λ k. all (suc k))

pub ascii-take : (bytes : List ℕ) (n : ℕ) → IsAscii bytes → IsAscii (take n bytes)
ascii-take bytes n all = ascii-before (take n bytes) (drop n bytes) (subst IsAscii (sym (take-append-drop n bytes)) all)

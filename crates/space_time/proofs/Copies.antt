-- Packets that are copied one by one.
use Rattle.std.specs.Prelude.{◌≡◌, ℕ, zero, suc, ◌+◌, List, [], ◌∷◌, ◌++◌, take, slice_get, Option, refl}
use Rattle.std.proofs.Common.{ap, ◌∙◌, arith}
use Rattle.tg_base.specs.declared.packet.Packet.{Packet}
use Rattle.space_time.specs.Pictures.{copied}

by_one : (xs : List Packet) (n : ℕ) → take n xs ++ copied (slice_get xs n) ≡ take (suc n) xs
by_one [] zero = refl
by_one [] (suc n) = refl
by_one (x ∷ xs) zero = refl
by_one (x ∷ xs) (suc n) = ap (λ (ys : List Packet). x ∷ ys) (by_one xs n)

pub taken_more : (xs ys : List Packet) (n : ℕ) (o : Option Packet) → ys ≡ take n xs → o ≡ slice_get xs n → ys ++ copied o ≡ take (n + 1) xs
taken_more xs ys n o e f =
    let next : suc n ≡ n + 1 = omega arith in
    ap (λ (zs : List Packet). zs ++ copied o) e ∙ ap (λ (p : Option Packet). take n xs ++ copied p) f ∙ by_one xs n ∙ ap (λ (k : ℕ). take k xs) next

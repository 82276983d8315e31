-- From what a call gives to what its caller gives.
use Rattle.std.proofs.Common.{◌≡◌, ℕ, ◌<◌, ◌≤◌, Bool, true, false, nat_lt, nat_le, Option, Some, None, Result, Ok, Err, IfOk, refl, ap, ◌∙◌, arith}
use Rattle.std.proofs.lemmas.Bool.Decides.{nat_tests}
use Rattle.tg_base.specs.Layouts.{Layout}
use Rattle.tg_entry.specs.declared.entry.Entry.{Entry}
use Rattle.tg_protocol.specs.Requests.{learns}
use Rattle.tg_protocol.specs.Cells.{fill_cell, place_in}
use Rattle.tg_protocol.specs.Appending.{AppendWork, Token, on_newer, on_old_epoch, judge_turn, dead_or_judged, append_again}
use Rattle.tg_append.specs.Appends.{append_at}

pub if_ok_by : {A E : Type 0} (r : Result A E) (P Q : A → Type 0) → ((x : A) → P x → Q x) → IfOk r P → IfOk r Q
if_ok_by (Ok x) P Q f h = f x h
if_ok_by (Err e) P Q f h = h

pub is_below : (a b : ℕ) → a < b → nat_lt a b ≡ true
is_below a b h = grind (arith, nat_tests)

pub not_below : (a b : ℕ) → b ≤ a → nat_lt a b ≡ false
not_below a b h = grind (arith, nat_tests)

not_reached : (a b : ℕ) → b < a → nat_le a b ≡ false
not_reached a b h = grind (arith, nat_tests)

pub later_learns : {M E : Type 0} (p : Layout) (e n : ℕ) (m : M) → p.epoch < e → on_old_epoch {M = M} {E = E} p e n m ≡ learns n m
later_learns {M} {E} p e n m h = ap (λ (b : Bool). on_newer {M = M} {E = E} p e n m b) (is_below p.epoch e h)

-- an older token whose position is below the start
pub resumed : (p : Layout) (d : Entry) (t : Option Token) (k : Token) (w : AppendWork) (n : ℕ) → t ≡ Some k → k.pos < p.start →
    append_again p (append_at d t w) n ≡ judge_turn (append_at d (Some k) w) k (fill_cell (place_in p k.pos) n)
unfolding append_again
resumed p d t k w n e low = ap (λ (z : Option Token). append_again p (append_at d z w) n) e ∙ ap (λ (b : Bool). dead_or_judged p (append_at d (Some k) w) k n b) (not_reached p.start k.pos low)

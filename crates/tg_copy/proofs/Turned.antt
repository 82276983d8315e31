-- From what a call gives to what its caller gives.
use Rattle.std.proofs.Common.{◌≡◌, ℕ, ◌<◌, ◌^◌, ◌==◌, Bool, true, false, nat_lt, nat_le, Result, Ok, Err, IfOk, refl, ap, ◌∙◌, arith}
use Rattle.std.specs.Prelude.{if◌then◌else◌}
use Rattle.std.proofs.lemmas.Bool.Decides.{nat_tests}
use Rattle.tg_base.specs.Layouts.{Layout}
use Rattle.tg_base.specs.declared.change.Join.{Join}
use Rattle.tg_protocol.specs.Words.{too_far}
use Rattle.tg_protocol.specs.Replies.{Reply, IsFenced, IsSealed, IsOther, near}
use Rattle.tg_protocol.specs.Requests.{learns}
use Rattle.tg_protocol.specs.Trimming.{CopyEnd, Copying, Sealing, learns_if, sealed_if, copies_past, copy_feed}
use Rattle.tg_copy.specs.declared.copy_state.Ask.{Ask}
use Rattle.tg_copy.specs.declared.copy_state.Ask.TheVariants as ask
use Rattle.tg_copy.specs.Copies.{copying, asked, asking}

pub if_ok_by : {A E : Type 0} (r : Result A E) (P Q : A → Type 0) → ((x : A) → P x → Q x) → IfOk r P → IfOk r Q
if_ok_by (Ok x) P Q f h = f x h
if_ok_by (Err e) P Q f h = h

is_below : (a b : ℕ) → a < b → nat_lt a b ≡ true
is_below a b h = grind (arith, nat_tests)

later_learns : (epoch e n : ℕ) (c : Copying) → epoch < e → learns_if {E = CopyEnd} (nat_lt epoch e) c n ≡ learns n c
later_learns epoch e n c h = ap (λ (b : Bool). learns_if {E = CopyEnd} b c n) (is_below epoch e h)

-- the spare stands at a later epoch
pub fence_learns : (p : Layout) (s : Join) (r : ℕ) (a : Ask) (u e n : ℕ) → p.epoch < e → copy_feed p (asking s r a) (asked r a) u (IsFenced e) n ≡ learns n (asking s r a)
unfolding copy_feed
fence_learns p s r ask.Seal u e n h = later_learns p.epoch e n (asking s r ask.Seal) h
fence_learns p s r (ask.Store pos x) u e n h = later_learns p.epoch e n (asking s r (ask.Store pos x)) h
fence_learns p s r (ask.Trim b) u e n h = later_learns p.epoch e n (asking s r (ask.Trim b)) h
fence_learns p s r ask.Look u e n h = later_learns p.epoch e n (asking s r ask.Look) h

not_far : (h : ℕ) → h < 2 ^ 62 → nat_le (2 ^ 62) h ≡ false
not_far h low = grind (arith, nat_tests)

same_epoch : (e f : ℕ) → e ≡ f → (e == f) ≡ true
same_epoch e f same = grind (arith, nat_tests)

-- the spare is sealed at the layout's epoch
pub seal_begins : (p : Layout) (s : Join) (r : ℕ) (a : Ask) (u e h n : ℕ) → a ≡ ask.Seal → h < 2 ^ 62 → e ≡ p.epoch →
    copy_feed p (asking s r a) (asked r a) u (near h (IsSealed e h)) n ≡ copies_past p (copying s (Sealing r)) 0 n
unfolding copy_feed
seal_begins p s r a u e h n is low same =
    ap (λ (b : Ask). copy_feed p (asking s r b) (asked r b) u (near h (IsSealed e h)) n) is
    ∙ ap (λ (b : Bool). copy_feed p (asking s r ask.Seal) (Sealing r) u (if b then IsOther else IsSealed e h) n) (not_far h low)
    ∙ ap (λ (b : Bool). sealed_if p (asking s r ask.Seal) n b) (same_epoch e p.epoch same)

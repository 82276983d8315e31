-- What a turn of trims comes to for an awaited answer, and by which tests.
use Rattle.std.proofs.Common.{◌≡◌, ℕ, [], ◌∷◌, Bool, true, false, refl}
use Rattle.std.specs.Prelude.{nat_lt}
use Rattle.tg_base.specs.Layouts.{Layout}
use Rattle.tg_protocol.specs.Requests.{Waits, without_wait, Goes, Turn, turn, passes, ends, learns, met_gone}
use Rattle.tg_protocol.specs.Replies.{Reply, IsGone, IsFenced}
use Rattle.tg_protocol.specs.Trimming.{Trims, Trimmed, AllTrimmed, trims_left, learns_if, trim_feed}

abbrev pub trims : ℕ → Waits → Trims
trims b ws = record { below = b; waits = ws }

module _ (p : Layout) (u : ℕ) (x : Reply) (next : ℕ) where
  pub data Fed : Trims → Turn Trims Trimmed → Type 0 where
    -- a unit has trimmed: others are waited for, or none
    TrimsOn : (b : ℕ) (ws : Waits) (d : ℕ) (w : ℕ × ℕ) (vs : Waits) → x ≡ IsGone d → without_wait u ws ≡ w ∷ vs
        → Fed (trims b ws) (met_gone d (turn next (Goes (trims b (w ∷ vs)))))
    TrimsLast : (b : ℕ) (ws : Waits) (d : ℕ) → x ≡ IsGone d → without_wait u ws ≡ [] → Fed (trims b ws) (met_gone d (ends next AllTrimmed))
    -- it has left the epoch
    IsFence : (t : Trims) (e : ℕ) → x ≡ IsFenced e → nat_lt p.epoch e ≡ true → Fed t (learns next t)
    -- nothing comes of it
    Nothing : (t : Trims) → Fed t (passes next t)

  left_fed : (b : ℕ) (ws : Waits) (d : ℕ) (vs : Waits) → x ≡ IsGone d → without_wait u ws ≡ vs → Fed (trims b ws) (met_gone d (trims_left b vs next))
  left_fed b ws d [] is left = TrimsLast b ws d is left
  left_fed b ws d (w ∷ vs) is left = TrimsOn b ws d w vs is left

  fence_fed : (t : Trims) (e : ℕ) (b : Bool) → x ≡ IsFenced e → nat_lt p.epoch e ≡ b → Fed t (learns_if b t next)
  fence_fed t e true is f = IsFence t e is f
  fence_fed t e false is f = Nothing t

  reply_fed : (t : Trims) (y : Reply) → x ≡ y → Fed t (trim_feed p t u y next)
  unfolding trim_feed
  reply_fed t (IsGone d) is = left_fed t.below t.waits d (without_wait u t.waits) is refl
  reply_fed t (IsFenced e) is = fence_fed t e (nat_lt p.epoch e) is refl
  reply_fed t y is = Nothing t

  pub trims_fed : (t : Trims) → Fed t (trim_feed p t u x next)
  trims_fed t = reply_fed t x refl

-- Where no unit was asked to trim, all that was asked is settled.
use Rattle.std.proofs.Common.{◌≡◌, List, [], ◌∷◌, Bool, true, false, sym, ap, ◌∙◌, inl, inr, arith}
use Rattle.std.specs.Prelude.{ℕ, not}
use Rattle.std.specs.List.{list_all}
use Rattle.tg_base.specs.declared.msg.Msg.{Msg}
use Rattle.tg_base.specs.declared.msg.Msg.TheVariants as msg
use Rattle.tg_base.specs.declared.packet.Packet.{Packet}
use Rattle.tg_kind.specs.Meaning.{Meaning}
use Rattle.tg_protocol.specs.Worlds.{World}
use Rattle.tg_law_layouts.proofs.Moves.Members.{Has, has_contained}
use Rattle.tg_law_headline.specs.Issues.Issues.{TrimsInTime}

unfoldable pub is_trim : Msg → Bool
is_trim (msg.Trim e b) = true
is_trim _ = false

both : (x : Packet) (ps : List Packet) → list_all (λ (y : Packet). not (is_trim y.msg)) (x ∷ ps) ≡ true → (not (is_trim x.msg) ≡ true) × (list_all (λ (y : Packet). not (is_trim y.msg)) ps ≡ true)
both x ps e = grind (arith, e)

none : (ps : List Packet) (x : Packet) (e b : ℕ) → list_all (λ (y : Packet). not (is_trim y.msg)) ps ≡ true → Has ps x → x.msg ≡ msg.Trim e b → ⊥
unfolding is_trim
none [] x e b all h is = absurd h
none (p ∷ ps) x e b all (inl i) is = no (sym (both p ps all).0 ∙ ap (λ (y : Msg). not (is_trim y)) (ap (λ (y : Packet). y.msg) (sym i) ∙ is))
  where
    no : true ≡ false → ⊥
    no z = cc
none (p ∷ ps) x e b all (inr g) is = none ps x e b (both p ps all).1 g is

pub no_trims_in_time : (m : Meaning) (w : World m) → list_all (λ (y : Packet). not (is_trim y.msg)) w.packets ≡ true → TrimsInTime m w
no_trims_in_time m w all = record { settled = λ x e b pos sent is less. absurd (none w.packets x e b all (has_contained w.packets x sent) is) }

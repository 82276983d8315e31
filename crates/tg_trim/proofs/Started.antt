-- What a trim sends first.
use Rattle.std.proofs.Common.{◌≡◌, ℕ, ◌+◌, List, length}
use Rattle.tg_base.specs.Layouts.{Layout}
use Rattle.tg_base.specs.declared.msg.Msg.TheVariants as msg
use Rattle.tg_base.specs.declared.packet.Out.{Out}
use Rattle.tg_protocol.specs.Words.{unit_id}
use Rattle.tg_protocol.specs.Layouts.{units_of}
use Rattle.tg_protocol.specs.Requests.{Waits, waits_for, asked_of}
use Rattle.tg_protocol.specs.Trimming.{trim_start}
use Rattle.tg_chain.proofs.Outs.{all_drawn}
use Rattle.tg_trim.specs.Turns.{Shown, On, by_trim}

pub started : (p : Layout) (below n k : ℕ) (ws : Waits) (outs : List Out) →
    k ≡ n + length (units_of p) → ws ≡ waits_for (units_of p) n → outs ≡ asked_of unit_id (msg.Trim p.epoch below) ws →
    ◌≡◌ {A = Shown} (record { next = k; to = On (record { below = below; waits = ws }); gone = 0; outs = outs }) (by_trim p n (trim_start p below n))
unfolding trim_start
started p below n k ws outs e f g = cc (all_drawn unit_id (msg.Trim p.epoch below) (units_of p) n)

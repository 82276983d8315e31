-- Random numbers, and the rounds that they give.
use Rattle.std.specs.Prelude.{ℕ, zero, suc, ◌+◌, ◌*◌, ◌%◌, ◌==◌, if◌then◌else◌}
use Rattle.tg_gen.specs.declared.round.Form.{Form}
use Rattle.tg_gen.specs.declared.round.Form.TheVariants as form
use Rattle.tg_gen.specs.declared.round.Target.{Target}
use Rattle.tg_gen.specs.declared.round.Target.TheVariants as target
use Rattle.tg_gen.specs.declared.round.Round.{Round}

-- the running number that a start gives, from 1
abbrev pub first : ℕ → ℕ
first start = start % 2147483646 + 1

-- the next one, which is drawn
abbrev pub next : ℕ → ℕ
next running = running * 48271 % 2147483647

-- the running number after n draws
unfoldable pub drawn : ℕ → ℕ → ℕ
drawn start zero = first start
drawn start (suc n) = next (drawn start n)

abbrev pub form_of : ℕ → Form
form_of n = if n == 0 then form.Change else (if n == 1 then form.Glance else (if n == 2 then form.Look else form.Update))

abbrev pub target_of : ℕ → Target
target_of n =
    if n == 0 then target.Counter else (if n == 1 then target.Register else (if n == 2 then target.Map
    else (if n == 3 then target.List else (if n == 4 then target.Tree else target.Set))))

-- a round by three draws
abbrev pub round_by : ℕ → ℕ → ℕ → Round
round_by a b c = record { form = form_of (a % 4); target = target_of (b % 6); value = c % 8 }

-- round i, from 0, takes the three draws that follow those of the rounds before it
abbrev pub round_of : ℕ → ℕ → Round
round_of start i = round_by (drawn start (i * 3 + 1)) (drawn start (i * 3 + 2)) (drawn start (i * 3 + 3))

-- Numbers that are left after the turn of a machine.
use Rattle.std.proofs.Common.{ℕ, ◌+◌, ◌≤◌, ◌^◌, arith}
use Rattle.tg_client_state.specs.Counts.{AreNear}

pub near_after : (n k b d c : ℕ) → AreNear (2 ^ 61) n b d c → k ≤ n + 2 ^ 16 → AreNear (2 ^ 62) k b d c
near_after n k b d c h le =
    let near = h.next in
    record { next = omega (arith, near, le); begun = h.begun; decisions = h.decisions; checkpoints = h.checkpoints }

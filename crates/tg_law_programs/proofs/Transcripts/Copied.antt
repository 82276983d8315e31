-- A copy keeps what its command names.
use Rattle.std.proofs.Common.{ℕ}
use Rattle.tg_base.specs.Layouts.{Layout}
use Rattle.tg_protocol.specs.Requests.{Next, Goes, Learns, Ends}
use Rattle.tg_protocol.specs.Replies.{Reply}
use Rattle.tg_protocol.specs.Trimming.{Sealing, Copying, CopyEnd, CopyTurn, copy_start, copy_feed}
use Rattle.tg_law_steps.proofs.Machines.Copies as copies
use Rattle.tg_law_programs.proofs.Transcripts.Near.{Near}
use Rattle.tg_law_programs.proofs.Transcripts.Given.{Few}

abbrev pub CopyOk : Copying → Type 0
CopyOk c = Few c.unit × Near c.range × Near c.stripe

abbrev pub CopyNext : Next Copying CopyEnd → Type 0
CopyNext (Goes c) = CopyOk c
CopyNext (Learns c) = CopyOk c
CopyNext (Ends e) = Unit {0}

pub copy_begun : (u r s next : ℕ) → CopyOk (record { unit = u; range = r; stripe = s; work = Sealing 0 }) → CopyNext (copy_start u r s next).to
unfolding copy_start
copy_begun u r s next k = k

turn_ok : (p : Layout) (u : ℕ) (x : Reply) (next : ℕ) (c : Copying) (t : CopyTurn) → copies.Fed p u x next c t → CopyOk c → CopyNext t.to
turn_ok p u x next _ _ (copies.HasAll c r is) ok = tt
turn_ok p u x next _ _ came ok = ok

pub copy_fed : (p : Layout) (c : Copying) → CopyOk c → (u next : ℕ) (x : Reply) → CopyNext (copy_feed p c c.work u x next).to
copy_fed p c ok u next x = turn_ok p u x next c _ (copies.copy_fed p u x next c) ok

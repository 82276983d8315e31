-- What a client sends besides its requests: a sequencer is told a layout, and nothing else.
use Rattle.std.proofs.Common.{◌≡◌, ℕ, List, [], ◌∷◌, ap, inl, inr, Option}
use Rattle.tg_base.specs.Layouts.{Layout}
use Rattle.tg_base.specs.declared.msg.Msg.TheVariants as msg
use Rattle.tg_base.specs.declared.packet.Out.{Out}
use Rattle.tg_protocol.specs.Words.{seqr_id}
use Rattle.tg_protocol.specs.Requests.{out}
use Rattle.tg_protocol.specs.Replies.{Reply}
use Rattle.tg_protocol.specs.Appending.{AppendWork, Token, Append, AppendTurn, append_feed, append_again}
use Rattle.tg_protocol.specs.Syncing.{SyncWork, Sync, SyncTurn, sync_start, sync_feed, sync_again}
use Rattle.tg_law_layouts.proofs.Moves.Members.{Has}
use Rattle.tg_law_steps.proofs.Machines.Appends as appends
use Rattle.tg_law_steps.proofs.Machines.Syncs as syncs

-- these tell this layout to a sequencer
abbrev pub OnlyLearns : Layout → List Out → Type 0
OnlyLearns p os = (o : Out) → Has os o → o.msg ≡ msg.Learn p

pub none_learns : (p : Layout) → OnlyLearns p []
none_learns p o h = absurd h

one_learns : (p : Layout) (next : ℕ) → OnlyLearns p (out (seqr_id p.seq) next (msg.Learn p) ∷ [])
one_learns p next o (inl e) = ap (λ (x : Out). x.msg) e
one_learns p next o (inr h) = absurd h

-- Appends.

append_turn : (p : Layout) (n : ℕ) (x : Reply) (next : ℕ) (a : Append) (t : AppendTurn) → appends.Fed p n x next a t → OnlyLearns p t.besides
append_turn p n x next _ _ (appends.TellsLayout d o r e is f g) = one_learns p next
append_turn p n x next _ _ y = none_learns p

pub append_besides : (p : Layout) (a : Append) (t : Option Token) (w : AppendWork) (n : ℕ) (x : Reply) (next : ℕ) → a.token ≡ t → OnlyLearns p (append_feed p (record a { work = w }) w n x next).besides
append_besides p a t w n x next is = append_turn p n x next (record a { work = w }) _ (appends.append_fed p n x next (record a { work = w }))

anew_turn : (p : Layout) (next : ℕ) (a : Append) (t : AppendTurn) → appends.Anew p next a t → OnlyLearns p t.besides
anew_turn p next _ _ (appends.HasNone d w) = none_learns p
anew_turn p next _ _ y = none_learns p

pub append_again_besides : (p : Layout) (a : Append) (next : ℕ) → OnlyLearns p (append_again p a next).besides
append_again_besides p a next = anew_turn p next a _ (appends.append_anew p next a)

-- Syncs.

sync_turn : (p : Layout) (n : ℕ) (x : Reply) (next : ℕ) (s : Sync) (t : SyncTurn) → syncs.Fed p n x next s t → OnlyLearns p t.besides
sync_turn p n x next _ _ (syncs.TellsLayout os r e is f g) = one_learns p next
sync_turn p n x next _ _ y = none_learns p

pub sync_besides : (p : Layout) (s : Sync) (w : SyncWork) (n : ℕ) (x : Reply) (next : ℕ) → OnlyLearns p (sync_feed p (record s { work = w }) w n x next).besides
sync_besides p s w n x next = sync_turn p n x next (record s { work = w }) _ (syncs.sync_fed p n x next (record s { work = w }))

pub sync_again_besides : (p : Layout) (s : Sync) (next : ℕ) → OnlyLearns p (sync_again s next).besides
unfolding sync_start
sync_again_besides p s next = none_learns p

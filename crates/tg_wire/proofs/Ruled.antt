-- A packet that keeps the rules, with numbers of its fields' types, has a spelling.
use Rattle.std.proofs.Common.{◌≡◌, ℕ, ◌≤◌, ◌<◌, ◌-◌, ◌^◌, true, ◌&&◌, eqb, List, [], ◌∷◌, length, Option, Some, None, refl, arith}
use Rattle.std.proofs.lemmas.Bool.{leb-true, lt-ltb, eqb-true, eq-eqb}
use Rattle.tg_base.specs.Layouts.{Layout, IsWithinTypes, is_layout}
use Rattle.tg_base.specs.declared.cell.Cell.{Cell}
use Rattle.tg_base.specs.declared.cell.Cell.TheVariants.{Junk, Data}
use Rattle.tg_base.specs.declared.ids.Ballot.{Ballot}
use Rattle.tg_base.specs.declared.ids.NodeId.{NodeId}
use Rattle.tg_base.specs.declared.ids.Role.{Role}
use Rattle.tg_base.specs.declared.ids.Role.TheVariants.{Unit as UnitRole, Layout as LayoutRole, Seqr as SeqrRole, Client as ClientRole}
use Rattle.tg_base.specs.declared.msg.Msg.{Msg}
use Rattle.tg_base.specs.declared.msg.Msg.TheVariants.{Read, Write, Fill, Copy, Has, Seal, Trim, Held, Taken, Unwritten, Gone, Fenced, Sealed, Missing, Whole, Prepare, Accept, Decided, AskLatest, Promise, Nack, Accepted, Latest, Learn, Token, Check, Issued, Tail, Scanning, OldEpoch, Full}
use Rattle.tg_base.specs.declared.packet.Packet.{Packet}
use Rattle.tg_base.proofs.Rules.{layout_rules}
use Rattle.tg_codec.specs.Reading.{meets}
use Rattle.tg_codec.specs.Codec.{u8, u64, from_table}
use Rattle.tg_codec.specs.Streams.{any, from_one}
use Rattle.tg_codec.proofs.Laws.{and-left, and-right, both}
use Rattle.tg_wire.specs.Fields.{page, cell, ballot, projection, Proposal, vote}
use Rattle.tg_wire.specs.Messages.{tag_of, read, write, fill, copy, has, seal, trim, held, taken, unwritten, gone, fenced, sealed, missing, whole, prepare, accept, decided, ask_latest, promise, nack, accepted, latest, learn, token, check, issued, tail, scanning, old_epoch, full, messages, tags, message}
use Rattle.tg_wire.specs.Packets.{role, node, packet}
use Rattle.tg_wire.specs.Rules.{is_page, is_cell, is_vote, is_asked, is_message, fits}
use Rattle.tg_wire.specs.Types.{IsLong, IsTypedBallot, IsTypedVote, IsTypedMessage, IsTyped}
use Rattle.tg_wire.proofs.Keeping.{within_met, u16_fits, u64_fits, layout_fits}
use Rattle.tg_wire.proofs.Streams.{objects_fit, links_fit}

long-fits : (n : ℕ) → IsLong n → (u64 any).fits n ≡ true
long-fits n lt = u64_fits 0 (2 ^ 64 - 1) n (omega arith) (omega (arith, lt)) lt

long-met : (n : ℕ) → 1 ≤ n → IsLong n → meets from_one n n ≡ true
long-met n le lt = within_met 1 (2 ^ 64 - 1) n le (omega (arith, lt))

asked-fits : (n : ℕ) → is_asked n ≡ true → IsLong n → (u64 from_one).fits n ≡ true
asked-fits n e lt = both _ _ (long-met n (leb-true 1 n e) lt) (lt-ltb n (2 ^ 64) lt)

ballot-fits : (b : Ballot) → IsTypedBallot b → ballot.fits b ≡ true
ballot-fits b h =
    let round = h.0 in
    let client = h.1 in
    both _ _ (both _ _ (within_met 0 (2 ^ 64 - 1) b.round (omega arith) (omega (arith, round))) (lt-ltb b.round (2 ^ 32) round)) (u16_fits 0 (2 ^ 64 - 1) b.client (omega arith) (omega (arith, client)) client)

page-fits : (p : List ℕ) → is_page p ≡ true → page.fits p ≡ true
page-fits p e = let few = leb-true (length p) 4096 e in both _ _ (u16_fits 0 4096 (length p) (omega arith) few (omega (arith, few))) (eq-eqb (length p) (length p) refl)

cell-fits : (c : Cell) → is_cell c ≡ true → cell.fits c ≡ true
cell-fits Junk e = refl
cell-fits (Data p) e = both _ _ refl (page-fits p e)

-- a layout that keeps the rules of layouts has a spelling
pub projection_fits : (l : Layout) → is_layout l ≡ true → IsWithinTypes l → projection.fits l ≡ true
projection_fits l e types = layout_fits from_one l e types (long-met l.epoch (layout_rules l e).epoch types.epoch)

vote-fits : (v : Option Proposal) → is_vote v ≡ true → IsTypedVote v → vote.fits v ≡ true
vote-fits None e types = refl
vote-fits (Some p) e types = both _ _ refl (both _ _ (ballot-fits p.0 types.0) (projection_fits p.1 e types.1))

fields-fit : (m : Msg) → is_message m ≡ true → IsTypedMessage m → (from_table messages (tag_of m)).fits m ≡ true
unfolding read write fill copy has seal trim held taken unwritten gone fenced sealed missing whole prepare accept decided ask_latest promise nack accepted latest learn token check issued tail scanning old_epoch full
fields-fit (Read epoch pos) e t = both _ _ (asked-fits epoch e t.0) (long-fits pos t.1)
fields-fit (Write epoch pos p) e t = both _ _ (asked-fits epoch (and-left _ _ e) t.0) (both _ _ (long-fits pos t.1) (page-fits p (and-right _ _ e)))
fields-fit (Fill epoch pos) e t = both _ _ (asked-fits epoch e t.0) (long-fits pos t.1)
fields-fit (Copy epoch pos c) e t = both _ _ (asked-fits epoch (and-left _ _ e) t.0) (both _ _ (long-fits pos t.1) (cell-fits c (and-right _ _ e)))
fields-fit (Has epoch lo hi step) e t =
    both _ _ (asked-fits epoch (and-left _ _ e) t.0.0) (both _ _ (long-fits lo t.0.1) (both _ _ (long-fits hi t.1.0) (asked-fits step (and-right _ _ e) t.1.1)))
fields-fit (Seal epoch) e t = asked-fits epoch e t
fields-fit (Trim epoch below) e t = both _ _ (asked-fits epoch e t.0) (long-fits below t.1)
fields-fit Held e t = refl
fields-fit (Taken c) e t = cell-fits c e
fields-fit Unwritten e t = refl
fields-fit (Gone below) e t = long-fits below t
fields-fit (Fenced epoch) e t = long-fits epoch t
fields-fit (Sealed epoch high) e t = both _ _ (long-fits epoch t.0) (long-fits high t.1)
fields-fit (Missing pos) e t = long-fits pos t
fields-fit Whole e t = refl
fields-fit (Prepare epoch b) e t = both _ _ (asked-fits epoch e t.0) (ballot-fits b t.1)
fields-fit (Accept epoch b l) e t =
    let h = and-left _ _ e in
    let own : l.epoch ≡ epoch = eqb-true l.epoch epoch (and-right (is_asked epoch && is_layout l) (eqb l.epoch epoch) e) in
    both _ _ (asked-fits epoch (and-left _ _ h) t.0.0)
    (both _ _ (ballot-fits b t.0.1) (layout_fits ((epoch, epoch) ∷ []) l (and-right _ _ h) t.1 (within_met epoch epoch l.epoch (omega (arith, own)) (omega (arith, own)))))
fields-fit (Decided l) e t = projection_fits l e t
fields-fit AskLatest e t = refl
fields-fit (Promise epoch b v) e t = both _ _ (long-fits epoch t.0.0) (both _ _ (ballot-fits b t.0.1) (vote-fits v e t.1))
fields-fit (Nack epoch b) e t = both _ _ (long-fits epoch t.0) (ballot-fits b t.1)
fields-fit (Accepted epoch b) e t = both _ _ (long-fits epoch t.0) (ballot-fits b t.1)
fields-fit (Latest l) e t = projection_fits l e t
fields-fit (Learn l) e t = projection_fits l e t
fields-fit (Token epoch oids) e t = both _ _ (asked-fits epoch (and-left _ _ e) t) (objects_fit 1 16 oids (omega arith) (and-right _ _ e))
fields-fit (Check epoch oids) e t = both _ _ (asked-fits epoch (and-left _ _ e) t) (objects_fit 0 128 oids (omega arith) (and-right _ _ e))
fields-fit (Issued pos links) e t = both _ _ (long-fits pos t.0) (links_fit links e t.1)
fields-fit (Tail pos links) e t = both _ _ (long-fits pos t.0) (links_fit links e t.1)
fields-fit (Scanning next start) e t = both _ _ (long-fits next t.0) (long-fits start t.1)
fields-fit (OldEpoch epoch) e t = long-fits epoch t
fields-fit (Full limit) e t = long-fits limit t

tag-fits : (m : Msg) → (u8 tags).fits (tag_of m) ≡ true
tag-fits (Read x0 x1) = refl
tag-fits (Write x0 x1 x2) = refl
tag-fits (Fill x0 x1) = refl
tag-fits (Copy x0 x1 x2) = refl
tag-fits (Has x0 x1 x2 x3) = refl
tag-fits (Seal x0) = refl
tag-fits (Trim x0 x1) = refl
tag-fits Held = refl
tag-fits (Taken x0) = refl
tag-fits Unwritten = refl
tag-fits (Gone x0) = refl
tag-fits (Fenced x0) = refl
tag-fits (Sealed x0 x1) = refl
tag-fits (Missing x0) = refl
tag-fits Whole = refl
tag-fits (Prepare x0 x1) = refl
tag-fits (Accept x0 x1 x2) = refl
tag-fits (Decided x0) = refl
tag-fits AskLatest = refl
tag-fits (Promise x0 x1 x2) = refl
tag-fits (Nack x0 x1) = refl
tag-fits (Accepted x0 x1) = refl
tag-fits (Latest x0) = refl
tag-fits (Learn x0) = refl
tag-fits (Token x0 x1) = refl
tag-fits (Check x0 x1) = refl
tag-fits (Issued x0 x1) = refl
tag-fits (Tail x0 x1) = refl
tag-fits (Scanning x0 x1) = refl
tag-fits (OldEpoch x0) = refl
tag-fits (Full x0) = refl

message-fits : (m : Msg) → is_message m ≡ true → IsTypedMessage m → message.fits m ≡ true
unfolding message
message-fits m e t = both _ _ (tag-fits m) (fields-fit m e t)

role-fits : (r : Role) → role.fits r ≡ true
role-fits UnitRole = refl
role-fits LayoutRole = refl
role-fits SeqrRole = refl
role-fits ClientRole = refl

node-fits : (n : NodeId) → n.num < 2 ^ 16 → node.fits n ≡ true
node-fits n lt = both _ _ (role-fits n.role) (u16_fits 0 (2 ^ 64 - 1) n.num (omega arith) (omega (arith, lt)) lt)

pub packet_fits : (p : Packet) → fits p ≡ true → IsTyped p → packet.fits p ≡ true
unfolding packet
packet_fits p e t =
    both _ _ refl (both _ _ (node-fits p.from t.from) (both _ _ (node-fits p.to t.to) (both _ _ (long-fits p.rid t.rid) (message-fits p.msg e t.msg))))

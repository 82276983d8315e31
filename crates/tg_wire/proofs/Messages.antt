-- The messages keep the law.
use Rattle.std.proofs.Common.{◌≡◌, ℕ, true, List, Option, Some, None, refl, ap, sym}
use Rattle.std.proofs.lemmas.Bool.{false≢true}
use Rattle.tg_base.specs.Layouts.{Layout}
use Rattle.tg_base.specs.declared.cell.Cell.{Cell}
use Rattle.tg_base.specs.declared.ids.Oid.{Oid}
use Rattle.tg_base.specs.declared.ids.Ballot.{Ballot}
use Rattle.tg_base.specs.declared.marks.StreamLink.{StreamLink}
use Rattle.tg_base.specs.declared.msg.Msg.{Msg}
use Rattle.tg_base.specs.declared.msg.Msg.TheVariants.{Read, Write, Fill, Copy, Has, Seal, Trim, Held, Taken, Unwritten, Gone, Fenced, Sealed, Missing, Whole, Prepare, Accept, Decided, AskLatest, Promise, Nack, Accepted, Latest, Learn, Token, Check, Issued, Tail, Scanning, OldEpoch, Full}
use Rattle.tg_codec.proofs.Laws.{IsCodec, nothing_law, dep_law, variant_law}
use Rattle.tg_codec.proofs.Widths.{u64_law}
use Rattle.tg_codec.proofs.Shapes.{text_law, tagged_law, table_law, table_tag, IsTable}
use Rattle.tg_codec.proofs.Objects.{links_law}
use Rattle.tg_wire.specs.Messages.{tag_of, as_read, as_write, as_fill, as_copy, as_has, as_seal, as_trim, as_held, as_taken, as_unwritten, as_gone, as_fenced, as_sealed, as_missing, as_whole, as_prepare, as_accept, as_decided, as_ask_latest, as_promise, as_nack, as_accepted, as_latest, as_learn, as_token, as_check, as_issued, as_tail, as_scanning, as_old_epoch, as_full, read, write, fill, copy, has, seal, trim, held, taken, unwritten, gone, fenced, sealed, missing, whole, prepare, accept, decided, ask_latest, promise, nack, accepted, latest, learn, token, check, issued, tail, scanning, old_epoch, full, messages, message}
use Rattle.tg_wire.proofs.Parts.{cell_law, objects_law, ballot_law, projection_of_law, projection_law, vote_law}

inner : {A : Type 0} (p q : A) → Some p ≡ Some q → p ≡ q
inner p q e = cc

-- another message has no fields of this one
no-fields : {A X : Type 0} (p : A) → None ≡ Some p → X
no-fields p e = absurd cc

read-back : (x : Msg) (p : ℕ × ℕ) → as_read x ≡ Some p → Read p.0 p.1 ≡ x
read-back (Read x0 x1) p h = ap (λ (q : ℕ × ℕ). Read q.0 q.1) (sym (inner (x0, x1) p h))
read-back other p h = no-fields p h

read-tag : (x : Msg) → read.fits x ≡ true → tag_of x ≡ 0x01
unfolding read
read-tag (Read x0 x1) h = refl
read-tag other h = absurd (false≢true h)

read_law : IsCodec read
unfolding read
read_law = variant_law _ _ (dep_law (u64_law _) (λ _. u64_law _)) (λ p. refl) read-back

write-back : (x : Msg) (p : ℕ × (ℕ × List ℕ)) → as_write x ≡ Some p → Write p.0 p.1.0 p.1.1 ≡ x
write-back (Write x0 x1 x2) p h = ap (λ (q : ℕ × (ℕ × List ℕ)). Write q.0 q.1.0 q.1.1) (sym (inner (x0, (x1, x2)) p h))
write-back other p h = no-fields p h

write-tag : (x : Msg) → write.fits x ≡ true → tag_of x ≡ 0x02
unfolding write
write-tag (Write x0 x1 x2) h = refl
write-tag other h = absurd (false≢true h)

write_law : IsCodec write
unfolding write
write_law = variant_law _ _ (dep_law (u64_law _) (λ _. dep_law (u64_law _) (λ _. text_law _))) (λ p. refl) write-back

fill-back : (x : Msg) (p : ℕ × ℕ) → as_fill x ≡ Some p → Fill p.0 p.1 ≡ x
fill-back (Fill x0 x1) p h = ap (λ (q : ℕ × ℕ). Fill q.0 q.1) (sym (inner (x0, x1) p h))
fill-back other p h = no-fields p h

fill-tag : (x : Msg) → fill.fits x ≡ true → tag_of x ≡ 0x03
unfolding fill
fill-tag (Fill x0 x1) h = refl
fill-tag other h = absurd (false≢true h)

fill_law : IsCodec fill
unfolding fill
fill_law = variant_law _ _ (dep_law (u64_law _) (λ _. u64_law _)) (λ p. refl) fill-back

copy-back : (x : Msg) (p : ℕ × (ℕ × Cell)) → as_copy x ≡ Some p → Copy p.0 p.1.0 p.1.1 ≡ x
copy-back (Copy x0 x1 x2) p h = ap (λ (q : ℕ × (ℕ × Cell)). Copy q.0 q.1.0 q.1.1) (sym (inner (x0, (x1, x2)) p h))
copy-back other p h = no-fields p h

copy-tag : (x : Msg) → copy.fits x ≡ true → tag_of x ≡ 0x04
unfolding copy
copy-tag (Copy x0 x1 x2) h = refl
copy-tag other h = absurd (false≢true h)

copy_law : IsCodec copy
unfolding copy
copy_law = variant_law _ _ (dep_law (u64_law _) (λ _. dep_law (u64_law _) (λ _. cell_law))) (λ p. refl) copy-back

has-back : (x : Msg) (p : ℕ × (ℕ × (ℕ × ℕ))) → as_has x ≡ Some p → Has p.0 p.1.0 p.1.1.0 p.1.1.1 ≡ x
has-back (Has x0 x1 x2 x3) p h = ap (λ (q : ℕ × (ℕ × (ℕ × ℕ))). Has q.0 q.1.0 q.1.1.0 q.1.1.1) (sym (inner (x0, (x1, (x2, x3))) p h))
has-back other p h = no-fields p h

has-tag : (x : Msg) → has.fits x ≡ true → tag_of x ≡ 0x05
unfolding has
has-tag (Has x0 x1 x2 x3) h = refl
has-tag other h = absurd (false≢true h)

has_law : IsCodec has
unfolding has
has_law = variant_law _ _ (dep_law (u64_law _) (λ _. dep_law (u64_law _) (λ _. dep_law (u64_law _) (λ _. u64_law _)))) (λ p. refl) has-back

seal-back : (x : Msg) (p : ℕ) → as_seal x ≡ Some p → Seal p ≡ x
seal-back (Seal x0) p h = ap (λ (q : ℕ). Seal q) (sym (inner x0 p h))
seal-back other p h = no-fields p h

seal-tag : (x : Msg) → seal.fits x ≡ true → tag_of x ≡ 0x06
unfolding seal
seal-tag (Seal x0) h = refl
seal-tag other h = absurd (false≢true h)

seal_law : IsCodec seal
unfolding seal
seal_law = variant_law _ _ (u64_law _) (λ p. refl) seal-back

trim-back : (x : Msg) (p : ℕ × ℕ) → as_trim x ≡ Some p → Trim p.0 p.1 ≡ x
trim-back (Trim x0 x1) p h = ap (λ (q : ℕ × ℕ). Trim q.0 q.1) (sym (inner (x0, x1) p h))
trim-back other p h = no-fields p h

trim-tag : (x : Msg) → trim.fits x ≡ true → tag_of x ≡ 0x07
unfolding trim
trim-tag (Trim x0 x1) h = refl
trim-tag other h = absurd (false≢true h)

trim_law : IsCodec trim
unfolding trim
trim_law = variant_law _ _ (dep_law (u64_law _) (λ _. u64_law _)) (λ p. refl) trim-back

held-back : (x : Msg) (p : Unit {0}) → as_held x ≡ Some p → Held ≡ x
held-back Held p h = refl
held-back other p h = no-fields p h

held-tag : (x : Msg) → held.fits x ≡ true → tag_of x ≡ 0x11
unfolding held
held-tag Held h = refl
held-tag other h = absurd (false≢true h)

held_law : IsCodec held
unfolding held
held_law = variant_law _ _ nothing_law (λ p. refl) held-back

taken-back : (x : Msg) (p : Cell) → as_taken x ≡ Some p → Taken p ≡ x
taken-back (Taken x0) p h = ap (λ (q : Cell). Taken q) (sym (inner x0 p h))
taken-back other p h = no-fields p h

taken-tag : (x : Msg) → taken.fits x ≡ true → tag_of x ≡ 0x12
unfolding taken
taken-tag (Taken x0) h = refl
taken-tag other h = absurd (false≢true h)

taken_law : IsCodec taken
unfolding taken
taken_law = variant_law _ _ cell_law (λ p. refl) taken-back

unwritten-back : (x : Msg) (p : Unit {0}) → as_unwritten x ≡ Some p → Unwritten ≡ x
unwritten-back Unwritten p h = refl
unwritten-back other p h = no-fields p h

unwritten-tag : (x : Msg) → unwritten.fits x ≡ true → tag_of x ≡ 0x13
unfolding unwritten
unwritten-tag Unwritten h = refl
unwritten-tag other h = absurd (false≢true h)

unwritten_law : IsCodec unwritten
unfolding unwritten
unwritten_law = variant_law _ _ nothing_law (λ p. refl) unwritten-back

gone-back : (x : Msg) (p : ℕ) → as_gone x ≡ Some p → Gone p ≡ x
gone-back (Gone x0) p h = ap (λ (q : ℕ). Gone q) (sym (inner x0 p h))
gone-back other p h = no-fields p h

gone-tag : (x : Msg) → gone.fits x ≡ true → tag_of x ≡ 0x14
unfolding gone
gone-tag (Gone x0) h = refl
gone-tag other h = absurd (false≢true h)

gone_law : IsCodec gone
unfolding gone
gone_law = variant_law _ _ (u64_law _) (λ p. refl) gone-back

fenced-back : (x : Msg) (p : ℕ) → as_fenced x ≡ Some p → Fenced p ≡ x
fenced-back (Fenced x0) p h = ap (λ (q : ℕ). Fenced q) (sym (inner x0 p h))
fenced-back other p h = no-fields p h

fenced-tag : (x : Msg) → fenced.fits x ≡ true → tag_of x ≡ 0x15
unfolding fenced
fenced-tag (Fenced x0) h = refl
fenced-tag other h = absurd (false≢true h)

fenced_law : IsCodec fenced
unfolding fenced
fenced_law = variant_law _ _ (u64_law _) (λ p. refl) fenced-back

sealed-back : (x : Msg) (p : ℕ × ℕ) → as_sealed x ≡ Some p → Sealed p.0 p.1 ≡ x
sealed-back (Sealed x0 x1) p h = ap (λ (q : ℕ × ℕ). Sealed q.0 q.1) (sym (inner (x0, x1) p h))
sealed-back other p h = no-fields p h

sealed-tag : (x : Msg) → sealed.fits x ≡ true → tag_of x ≡ 0x16
unfolding sealed
sealed-tag (Sealed x0 x1) h = refl
sealed-tag other h = absurd (false≢true h)

sealed_law : IsCodec sealed
unfolding sealed
sealed_law = variant_law _ _ (dep_law (u64_law _) (λ _. u64_law _)) (λ p. refl) sealed-back

missing-back : (x : Msg) (p : ℕ) → as_missing x ≡ Some p → Missing p ≡ x
missing-back (Missing x0) p h = ap (λ (q : ℕ). Missing q) (sym (inner x0 p h))
missing-back other p h = no-fields p h

missing-tag : (x : Msg) → missing.fits x ≡ true → tag_of x ≡ 0x17
unfolding missing
missing-tag (Missing x0) h = refl
missing-tag other h = absurd (false≢true h)

missing_law : IsCodec missing
unfolding missing
missing_law = variant_law _ _ (u64_law _) (λ p. refl) missing-back

whole-back : (x : Msg) (p : Unit {0}) → as_whole x ≡ Some p → Whole ≡ x
whole-back Whole p h = refl
whole-back other p h = no-fields p h

whole-tag : (x : Msg) → whole.fits x ≡ true → tag_of x ≡ 0x18
unfolding whole
whole-tag Whole h = refl
whole-tag other h = absurd (false≢true h)

whole_law : IsCodec whole
unfolding whole
whole_law = variant_law _ _ nothing_law (λ p. refl) whole-back

prepare-back : (x : Msg) (p : ℕ × Ballot) → as_prepare x ≡ Some p → Prepare p.0 p.1 ≡ x
prepare-back (Prepare x0 x1) p h = ap (λ (q : ℕ × Ballot). Prepare q.0 q.1) (sym (inner (x0, x1) p h))
prepare-back other p h = no-fields p h

prepare-tag : (x : Msg) → prepare.fits x ≡ true → tag_of x ≡ 0x21
unfolding prepare
prepare-tag (Prepare x0 x1) h = refl
prepare-tag other h = absurd (false≢true h)

prepare_law : IsCodec prepare
unfolding prepare
prepare_law = variant_law _ _ (dep_law (u64_law _) (λ _. ballot_law)) (λ p. refl) prepare-back

accept-back : (x : Msg) (p : ℕ × (Ballot × Layout)) → as_accept x ≡ Some p → Accept p.0 p.1.0 p.1.1 ≡ x
accept-back (Accept x0 x1 x2) p h = ap (λ (q : ℕ × (Ballot × Layout)). Accept q.0 q.1.0 q.1.1) (sym (inner (x0, (x1, x2)) p h))
accept-back other p h = no-fields p h

accept-tag : (x : Msg) → accept.fits x ≡ true → tag_of x ≡ 0x22
unfolding accept
accept-tag (Accept x0 x1 x2) h = refl
accept-tag other h = absurd (false≢true h)

accept_law : IsCodec accept
unfolding accept
accept_law = variant_law _ _ (dep_law (u64_law _) (λ _. dep_law ballot_law (λ _. projection_of_law _))) (λ p. refl) accept-back

decided-back : (x : Msg) (p : Layout) → as_decided x ≡ Some p → Decided p ≡ x
decided-back (Decided x0) p h = ap (λ (q : Layout). Decided q) (sym (inner x0 p h))
decided-back other p h = no-fields p h

decided-tag : (x : Msg) → decided.fits x ≡ true → tag_of x ≡ 0x23
unfolding decided
decided-tag (Decided x0) h = refl
decided-tag other h = absurd (false≢true h)

decided_law : IsCodec decided
unfolding decided
decided_law = variant_law _ _ projection_law (λ p. refl) decided-back

ask_latest-back : (x : Msg) (p : Unit {0}) → as_ask_latest x ≡ Some p → AskLatest ≡ x
ask_latest-back AskLatest p h = refl
ask_latest-back other p h = no-fields p h

ask_latest-tag : (x : Msg) → ask_latest.fits x ≡ true → tag_of x ≡ 0x24
unfolding ask_latest
ask_latest-tag AskLatest h = refl
ask_latest-tag other h = absurd (false≢true h)

ask_latest_law : IsCodec ask_latest
unfolding ask_latest
ask_latest_law = variant_law _ _ nothing_law (λ p. refl) ask_latest-back

promise-back : (x : Msg) (p : ℕ × (Ballot × (Option (Ballot × Layout)))) → as_promise x ≡ Some p → Promise p.0 p.1.0 p.1.1 ≡ x
promise-back (Promise x0 x1 x2) p h = ap (λ (q : ℕ × (Ballot × (Option (Ballot × Layout)))). Promise q.0 q.1.0 q.1.1) (sym (inner (x0, (x1, x2)) p h))
promise-back other p h = no-fields p h

promise-tag : (x : Msg) → promise.fits x ≡ true → tag_of x ≡ 0x29
unfolding promise
promise-tag (Promise x0 x1 x2) h = refl
promise-tag other h = absurd (false≢true h)

promise_law : IsCodec promise
unfolding promise
promise_law = variant_law _ _ (dep_law (u64_law _) (λ _. dep_law ballot_law (λ _. vote_law))) (λ p. refl) promise-back

nack-back : (x : Msg) (p : ℕ × Ballot) → as_nack x ≡ Some p → Nack p.0 p.1 ≡ x
nack-back (Nack x0 x1) p h = ap (λ (q : ℕ × Ballot). Nack q.0 q.1) (sym (inner (x0, x1) p h))
nack-back other p h = no-fields p h

nack-tag : (x : Msg) → nack.fits x ≡ true → tag_of x ≡ 0x2A
unfolding nack
nack-tag (Nack x0 x1) h = refl
nack-tag other h = absurd (false≢true h)

nack_law : IsCodec nack
unfolding nack
nack_law = variant_law _ _ (dep_law (u64_law _) (λ _. ballot_law)) (λ p. refl) nack-back

accepted-back : (x : Msg) (p : ℕ × Ballot) → as_accepted x ≡ Some p → Accepted p.0 p.1 ≡ x
accepted-back (Accepted x0 x1) p h = ap (λ (q : ℕ × Ballot). Accepted q.0 q.1) (sym (inner (x0, x1) p h))
accepted-back other p h = no-fields p h

accepted-tag : (x : Msg) → accepted.fits x ≡ true → tag_of x ≡ 0x2B
unfolding accepted
accepted-tag (Accepted x0 x1) h = refl
accepted-tag other h = absurd (false≢true h)

accepted_law : IsCodec accepted
unfolding accepted
accepted_law = variant_law _ _ (dep_law (u64_law _) (λ _. ballot_law)) (λ p. refl) accepted-back

latest-back : (x : Msg) (p : Layout) → as_latest x ≡ Some p → Latest p ≡ x
latest-back (Latest x0) p h = ap (λ (q : Layout). Latest q) (sym (inner x0 p h))
latest-back other p h = no-fields p h

latest-tag : (x : Msg) → latest.fits x ≡ true → tag_of x ≡ 0x2C
unfolding latest
latest-tag (Latest x0) h = refl
latest-tag other h = absurd (false≢true h)

latest_law : IsCodec latest
unfolding latest
latest_law = variant_law _ _ projection_law (λ p. refl) latest-back

learn-back : (x : Msg) (p : Layout) → as_learn x ≡ Some p → Learn p ≡ x
learn-back (Learn x0) p h = ap (λ (q : Layout). Learn q) (sym (inner x0 p h))
learn-back other p h = no-fields p h

learn-tag : (x : Msg) → learn.fits x ≡ true → tag_of x ≡ 0x31
unfolding learn
learn-tag (Learn x0) h = refl
learn-tag other h = absurd (false≢true h)

learn_law : IsCodec learn
unfolding learn
learn_law = variant_law _ _ projection_law (λ p. refl) learn-back

token-back : (x : Msg) (p : ℕ × List Oid) → as_token x ≡ Some p → Token p.0 p.1 ≡ x
token-back (Token x0 x1) p h = ap (λ (q : ℕ × List Oid). Token q.0 q.1) (sym (inner (x0, x1) p h))
token-back other p h = no-fields p h

token-tag : (x : Msg) → token.fits x ≡ true → tag_of x ≡ 0x32
unfolding token
token-tag (Token x0 x1) h = refl
token-tag other h = absurd (false≢true h)

token_law : IsCodec token
unfolding token
token_law = variant_law _ _ (dep_law (u64_law _) (λ _. objects_law _)) (λ p. refl) token-back

check-back : (x : Msg) (p : ℕ × List Oid) → as_check x ≡ Some p → Check p.0 p.1 ≡ x
check-back (Check x0 x1) p h = ap (λ (q : ℕ × List Oid). Check q.0 q.1) (sym (inner (x0, x1) p h))
check-back other p h = no-fields p h

check-tag : (x : Msg) → check.fits x ≡ true → tag_of x ≡ 0x33
unfolding check
check-tag (Check x0 x1) h = refl
check-tag other h = absurd (false≢true h)

check_law : IsCodec check
unfolding check
check_law = variant_law _ _ (dep_law (u64_law _) (λ _. objects_law _)) (λ p. refl) check-back

issued-back : (x : Msg) (p : ℕ × List StreamLink) → as_issued x ≡ Some p → Issued p.0 p.1 ≡ x
issued-back (Issued x0 x1) p h = ap (λ (q : ℕ × List StreamLink). Issued q.0 q.1) (sym (inner (x0, x1) p h))
issued-back other p h = no-fields p h

issued-tag : (x : Msg) → issued.fits x ≡ true → tag_of x ≡ 0x39
unfolding issued
issued-tag (Issued x0 x1) h = refl
issued-tag other h = absurd (false≢true h)

issued_law : IsCodec issued
unfolding issued
issued_law = variant_law _ _ (dep_law (u64_law _) (λ _. links_law _)) (λ p. refl) issued-back

tail-back : (x : Msg) (p : ℕ × List StreamLink) → as_tail x ≡ Some p → Tail p.0 p.1 ≡ x
tail-back (Tail x0 x1) p h = ap (λ (q : ℕ × List StreamLink). Tail q.0 q.1) (sym (inner (x0, x1) p h))
tail-back other p h = no-fields p h

tail-tag : (x : Msg) → tail.fits x ≡ true → tag_of x ≡ 0x3A
unfolding tail
tail-tag (Tail x0 x1) h = refl
tail-tag other h = absurd (false≢true h)

tail_law : IsCodec tail
unfolding tail
tail_law = variant_law _ _ (dep_law (u64_law _) (λ _. links_law _)) (λ p. refl) tail-back

scanning-back : (x : Msg) (p : ℕ × ℕ) → as_scanning x ≡ Some p → Scanning p.0 p.1 ≡ x
scanning-back (Scanning x0 x1) p h = ap (λ (q : ℕ × ℕ). Scanning q.0 q.1) (sym (inner (x0, x1) p h))
scanning-back other p h = no-fields p h

scanning-tag : (x : Msg) → scanning.fits x ≡ true → tag_of x ≡ 0x3B
unfolding scanning
scanning-tag (Scanning x0 x1) h = refl
scanning-tag other h = absurd (false≢true h)

scanning_law : IsCodec scanning
unfolding scanning
scanning_law = variant_law _ _ (dep_law (u64_law _) (λ _. u64_law _)) (λ p. refl) scanning-back

old_epoch-back : (x : Msg) (p : ℕ) → as_old_epoch x ≡ Some p → OldEpoch p ≡ x
old_epoch-back (OldEpoch x0) p h = ap (λ (q : ℕ). OldEpoch q) (sym (inner x0 p h))
old_epoch-back other p h = no-fields p h

old_epoch-tag : (x : Msg) → old_epoch.fits x ≡ true → tag_of x ≡ 0x3C
unfolding old_epoch
old_epoch-tag (OldEpoch x0) h = refl
old_epoch-tag other h = absurd (false≢true h)

old_epoch_law : IsCodec old_epoch
unfolding old_epoch
old_epoch_law = variant_law _ _ (u64_law _) (λ p. refl) old_epoch-back

full-back : (x : Msg) (p : ℕ) → as_full x ≡ Some p → Full p ≡ x
full-back (Full x0) p h = ap (λ (q : ℕ). Full q) (sym (inner x0 p h))
full-back other p h = no-fields p h

full-tag : (x : Msg) → full.fits x ≡ true → tag_of x ≡ 0x3D
unfolding full
full-tag (Full x0) h = refl
full-tag other h = absurd (false≢true h)

full_law : IsCodec full
unfolding full
full_law = variant_law _ _ (u64_law _) (λ p. refl) full-back

is_table : IsTable tag_of messages
is_table = ((read_law, read-tag), ((write_law, write-tag), ((fill_law, fill-tag), ((copy_law, copy-tag), ((has_law, has-tag), ((seal_law, seal-tag), ((trim_law, trim-tag), ((held_law, held-tag), ((taken_law, taken-tag), ((unwritten_law, unwritten-tag), ((gone_law, gone-tag), ((fenced_law, fenced-tag), ((sealed_law, sealed-tag), ((missing_law, missing-tag), ((whole_law, whole-tag), ((prepare_law, prepare-tag), ((accept_law, accept-tag), ((decided_law, decided-tag), ((ask_latest_law, ask_latest-tag), ((promise_law, promise-tag), ((nack_law, nack-tag), ((accepted_law, accepted-tag), ((latest_law, latest-tag), ((learn_law, learn-tag), ((token_law, token-tag), ((check_law, check-tag), ((issued_law, issued-tag), ((tail_law, tail-tag), ((scanning_law, scanning-tag), ((old_epoch_law, old_epoch-tag), ((full_law, full-tag), tt)))))))))))))))))))))))))))))))

pub message_law : IsCodec message
unfolding message
message_law = tagged_law _ tag_of _ (table_law tag_of messages is_table) (λ t x m e. table_tag tag_of messages is_table t x e)

-- Entries of format 1 read whole objects.
use Rattle.std.proofs.Common.{◌≡◌, ℕ, Bool, true, false, List, [], ◌∷◌, Ok, refl, ap, subst, sym, inl, inr, Some}
use Rattle.std.specs.Prelude.{◌==◌, if◌then◌else◌}
use Rattle.tg_base.specs.declared.marks.Part.{Part}
use Rattle.tg_base.specs.declared.marks.Part.TheVariants.{All}
use Rattle.tg_base.specs.declared.marks.ReadMark.{ReadMark}
use Rattle.tg_base.specs.declared.marks.StreamLink.{StreamLink}
use Rattle.tg_codec.specs.Codec.{Codec, u8, u16, u32, u64, fixed, dep, many, from_table}
use Rattle.tg_codec.specs.Owing.{points}
use Rattle.tg_codec.specs.Streams.{any, from_one, oids_from, oid, links}
use Rattle.tg_entry.specs.declared.entry.Body.{Body}
use Rattle.tg_entry.specs.declared.entry.Body.TheVariants.{Commit, Decision}
use Rattle.tg_entry.specs.declared.entry.Entry.{Entry}
use Rattle.tg_entry.specs.Reads.{old_mark, after_old_mark, marks, reads}
use Rattle.tg_entry.specs.Writes.{stream_numbers, writes}
use Rattle.tg_entry.specs.Checkpoints.{Fields, fields, make_checkpoint}
use Rattle.tg_entry.specs.Format.{commit, truth, decision, checkpoint, body, stream_counts, in_streams, by_number, by_client, of_tag, of_format, to_entry, from_entry, entry}
use Rattle.tg_entry.specs.Needs.{reads_in, reads_of}
use Rattle.tg_protocol.specs.Pages.{entry_of}
use Rattle.tg_law_replies.proofs.History.Members.{Has}
use Rattle.tg_law_replies.proofs.Pages.Formats.{Reads, reads_any, reads_dep, reads_via, reads_many, reads_counted}
use Rattle.tg_law_replies.proofs.Pages.Read.{page_has}

abbrev AreWhole : List ReadMark → Type 0
AreWhole rs = (r : ReadMark) → Has rs r → r.part ≡ All

reads_mark : (low : ℕ) → Reads (old_mark low) (λ m. m.part ≡ All)
reads_mark low bytes m rest e =
    reads_via (λ p. record { oid = p.0; part = All; version = p.1 }) (λ r. (r.oid, r.version)) (dep (oid (oids_from low)) (λ _. u64 any)) (λ p. Unit {0}) (λ r. r.part ≡ All)
    (reads_any (dep (oid (oids_from low)) (λ _. u64 any))) (λ p h. refl) bytes m rest e

one_more : (low : ℕ) (r : ReadMark) (rs : List ReadMark) → r.part ≡ All → AreWhole rs → AreWhole (r ∷ rs)
one_more low r rs first more x (inl e) = subst (λ (y : ReadMark). y.part ≡ All) (sym e) first
one_more low r rs first more x (inr i) = more x i

reads_reads : Reads (reads 1) AreWhole
unfolding reads marks
reads_reads = reads_counted ((0, 64) ∷ []) (marks 1) (λ n rs. AreWhole rs) AreWhole (λ n bytes rs rest e. (reads_many old_mark after_old_mark (λ low r. r.part ≡ All) (λ low xs. AreWhole xs) (λ low r i. absurd i) one_more reads_mark n 0 bytes rs rest e).0) (λ n rs met h. h)

abbrev IsWhole : Body → Type 0
IsWhole b = AreWhole (reads_in b)

reads_commit : (ls : List StreamLink) → Reads (commit 1 ls) IsWhole
reads_commit ls =
    reads_via (λ p. Commit p.0 p.1) (λ b. ([], [])) (dep (reads 1) (λ _. writes ls)) (λ p. AreWhole p.0 × Unit {0}) IsWhole
    (reads_dep (reads 1) (λ _. writes ls) AreWhole (λ rs ws. Unit {0}) reads_reads (λ rs h. reads_any (writes ls))) (λ p h. h.0)

reads_decision : Reads decision IsWhole
reads_decision = reads_via (λ p. Decision p.0 p.1) (λ b. (0, true)) (dep (u64 any) (λ _. truth)) (λ p. Unit {0}) IsWhole (reads_any (dep (u64 any) (λ _. truth))) (λ p h r i. absurd i)

reads_checkpoint : (ls : List StreamLink) → Reads (checkpoint 1 ls) IsWhole
reads_checkpoint ls bytes b rest e =
    reads_via {B = Body} make_checkpoint (λ x. back) (fields 1 (points (stream_numbers ls))) (λ p. Unit {0}) IsWhole (reads_any (fields 1 (points (stream_numbers ls)))) (λ p h r i. absurd i) bytes b rest e
  where
    back : Fields
    back = (record { 0 = 0 }, (0, (0, (0, ([], [])))))

reads_body : (ls : List StreamLink) (tag : ℕ) → Reads (body 1 ls tag) IsWhole
unfolding body
reads_body ls tag bytes b rest e = by (tag == 1) (tag == 2) (tag == 3) e
  where
    by : (x y z : Bool) → (if x then commit 1 ls else (if y then decision else (if z then checkpoint 1 ls else from_table [] tag))).read bytes ≡ Ok (b, rest) → IsWhole b
    by true y z f = reads_commit ls bytes b rest f
    by false true z f = reads_decision bytes b rest f
    by false false true f = reads_checkpoint ls bytes b rest f
    by false false false f = absurd cc

-- after a value that doesn't matter
after : {A B : Type 0} (a : Codec A) (b : A → Codec B) (Q : B → Type 0) → ((x : A) → Reads (b x) Q) → Reads (dep a b) (λ p. Q p.1)
after {A} {B} a b Q each bytes p rest e = (reads_dep a b (λ x. Unit {0}) (λ x. Q) (reads_any a) (λ x h. each x) bytes p rest e).1

reads_tagged : Reads (of_tag 1) (λ p. IsWhole p.1.1.1.1)
reads_tagged = after {B = ℕ × (ℕ × (List StreamLink × Body))} (u8 ((1, 3) ∷ [])) (by_client 1) (λ p. IsWhole p.1.1.1)
    (λ tag. after {B = ℕ × (List StreamLink × Body)} (u16 any) (λ _. by_number 1 tag) (λ p. IsWhole p.1.1)
    (λ client. after {B = List StreamLink × Body} (u32 from_one) (λ _. in_streams 1 tag) (λ p. IsWhole p.1)
    (λ number. after (links (stream_counts tag)) (λ ls. body 1 ls tag) IsWhole (λ ls. reads_body ls tag))))

abbrev IsOld : Entry → Type 0
IsOld e = e.head.format ≡ 1 → AreWhole (reads_of e)

reads_entry : Reads entry IsOld
unfolding entry
reads_entry = reads_via to_entry from_entry (dep (fixed (0x54 ∷ [])) (λ _. of_format)) (λ p. p.1.0 ≡ 1 → IsWhole p.1.1.1.1.1.1) IsOld
    (after (fixed (0x54 ∷ [])) (λ _. of_format) (λ p. p.0 ≡ 1 → IsWhole p.1.1.1.1.1) (λ x bytes p rest e. (reads_dep (u8 ((1, 2) ∷ [])) of_tag (λ n. Unit {0}) (λ n q. n ≡ 1 → IsWhole q.1.1.1.1)
    (reads_any (u8 ((1, 2) ∷ []))) (λ n h more q after_tag at is. reads_tagged more q after_tag (subst (λ (k : ℕ). (of_tag k).read more ≡ Ok (q, after_tag)) is at)) bytes p rest e).1)) (λ p h. h)

pub old_reads : (page : List ℕ) (e : Entry) → entry_of page ≡ Some e → e.head.format ≡ 1 → (r : ReadMark) → Has (reads_of e) r → r.part ≡ All
old_reads page e is = page_has IsOld reads_entry page e is

-- Packets and their bytes after one more.
use Rattle.std.specs.Prelude.{◌≡◌, ℕ, ◌+◌, ◌-◌, ◌^◌, min, List, [], ◌∷◌, ◌++◌, length, refl}
use Rattle.std.proofs.Common.{sym, ap, ◌∙◌, arith}
use Rattle.std.proofs.Math.Nat.{zero-add}
use Rattle.tg_base.specs.declared.packet.Packet.{Packet}
use Rattle.tg_protocol.specs.Sizes.{packet_size}
use Rattle.tg_world_servers.specs.Posts.{PostState, IsCounted, bytes_of, capped, posted}

length_last : (ps : List Packet) (p : Packet) → length (ps ++ p ∷ []) ≡ length ps + 1
length_last [] p = refl
length_last (x ∷ ps) p = let h : length (ps ++ p ∷ []) ≡ length ps + 1 = length_last ps p in omega (arith, h)

bytes_last : (ps : List Packet) (p : Packet) → bytes_of (ps ++ p ∷ []) ≡ bytes_of ps + bytes_of (p ∷ [])
bytes_last [] p = sym (zero-add (bytes_of (p ∷ [])))
bytes_last (x ∷ ps) p = let h : bytes_of (ps ++ p ∷ []) ≡ bytes_of ps + bytes_of (p ∷ []) = bytes_last ps p in omega (arith, h)

capped_sum : (x y a b r : ℕ) → a ≡ capped x → b ≡ capped y → r ≡ min (a + b) (2 ^ 64 - 1) → r ≡ capped (x + (y + 0))
capped_sum x y a b r h k e = omega (arith, h, k, e)

-- a packet is sent
pub sent_more : (ps qs : List Packet) (n m : ℕ) (p : Packet) (a b r : ℕ) → IsCounted ps n a → qs ≡ ps ++ p ∷ [] → m ≡ n + 1 → b ≡ capped (packet_size p) → r ≡ min (a + b) (2 ^ 64 - 1) → IsCounted qs m r
sent_more ps qs n m p a b r h q e k f =
    let long : length qs ≡ length ps + 1 = ap length q ∙ length_last ps p in
    record {
      all = omega (arith, e, long, h.all);
      counted = capped_sum (bytes_of ps) (packet_size p) a b r h.counted k f ∙ ap capped (sym (bytes_last ps p) ∙ sym (ap bytes_of q));
    }

pub is_posted : (ps : List Packet) (ws : List ℕ) (n a : ℕ) (ds : List ℕ) (p : Packet) (qs : List Packet) (ks : List ℕ) → IsCounted ps n a → qs ≡ ps ++ p ∷ [] → ks ≡ ws ++ n ∷ []
    → ◌≡◌ {A = PostState} (record { packets = qs; waiting = ks; delivered = ds; bytes = bytes_of qs })
    (posted (record { packets = ps; waiting = ws; delivered = ds; bytes = bytes_of ps }) (p ∷ []))
is_posted ps ws n a ds p qs ks h q e = λ i. record { packets = q i; waiting = (e ∙ ap (λ (k : ℕ). ws ++ k ∷ []) h.all) i; delivered = ds; bytes = (ap bytes_of q ∙ bytes_last ps p) i }

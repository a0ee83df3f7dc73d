-- The key that an entry gives is one.
use Rattle.std.proofs.Common.{◌≡◌, ◌+◌, ◌-◌, Some, sym, ap, subst, arith}
use Rattle.mm_word.proofs.{Results.enter_result-well_formed, Packing.SpellsPointer-bits_of}
use Rattle.mm_word.specs.Pointer.{Pointer, IsWellFormed, base_of}
use Rattle.mm_graph.specs.declared.canonical_ptr.CanonicalPtr.{CanonicalPtr}
use Rattle.mm_graph.specs.Key.{IsKey, key_of, pointer_at, standing_for, entry_key}
use Rattle.mm_graph.proofs.Representatives.{pointer_at-key_of, standing-well_formed, stands_from, entry_from}

pub key_of-is_key : (p : Pointer) → IsWellFormed p → IsKey (key_of p)
key_of-is_key p w =
    let is = pointer_at-key_of p w in
    record {
      spells = SpellsPointer-bits_of p w;
      well_formed = subst IsWellFormed (sym is) w;
      base = ap base_of (sym is);
      narrow = subst (λ (v : Pointer). 54 - p.log + v.log ≡ 54) (sym is) (let le = w.log_in_range in omega arith);
    }

pub entry_is_key : (k x : CanonicalPtr) → IsKey k → entry_key k ≡ Some x → IsKey x
entry_is_key k x h e =
    let f = entry_from (pointer_at k) x e in
    let w = enter_result-well_formed (pointer_at k) f.to h.well_formed f.enters in
    let s = stands_from f.to x f.stands in
    subst IsKey (sym s.is) (key_of-is_key (standing_for f.to) (standing-well_formed f.to w))

-- The keys of the configurations that were kept.
use Rattle.std.proofs.Common.{◌≡◌, ℕ, ◌<◌, ◌≤◌, [], ◌∷◌, ◌++◌, length, slice_get, slice_index_or, Some, refl, sym, ap, ◌∙◌, subst, arith, length-append}
use Rattle.std.proofs.lemmas.Option.{slice_get-get_or}
use Rattle.std.specs.{Prelude.{Contains, ◌^◌}, List.AllZip}
use Rattle.mm_model.proofs.CoreRows.{each_push}
use Rattle.mm_model.specs.{Image.Image, State.State, Spelling.IsImage}
use Rattle.mm_config.specs.declared.configs.Configs as code
use Rattle.mm_config.specs.declared.{store.Store.Store, names.Names.Names}
use Rattle.mm_config.specs.declared.configs.Looked.{TheVariants.{Known, New, Full}}
use Rattle.mm_config.specs.{Configurations.configuration, Machines.{Configs, Keeps}, Keeping.{IsConfigurationOf, IsKeyOf, Stands}}
use Rattle.mm_config.specs.Naming.{AreNamesOf, IsRest, IsKeptOnce}
use Rattle.mm_config.proofs.{NamedOnce.{rests_tell, one_rest, all_got}, OneConfig.names_are_of_one, Zips.{zip_long, zip_at, zip_from, zip_more, each_at}}
use Rattle.mm_pairs.specs.Found.{IsAbsent}

-- 1. A key, and the names of a configuration.

module _ (i : Image) (s m : State) (depth : ℕ) (k : Store) (now : Names) (rest : ℕ) (key : ℕ × ℕ) (image : IsImage i) (once : IsKeptOnce k)
    (own : IsConfigurationOf i s) (other : IsConfigurationOf i m) (named : AreNamesOf i.slots depth k m now) (is_rest : IsRest k.pairs now rest)
    (h : IsKeyOf i.slots depth k s key) where
  pub key_tells : key ≡ (now.slots, rest) → s ≡ m
  key_tells e =
      let four = rests_tell k.pairs h.names now key.1 rest (ap (λ (p : ℕ × ℕ). p.1) e) h.rest is_rest in
      let slots : h.names.slots ≡ now.slots = sym h.slots ∙ ap (λ (p : ℕ × ℕ). p.0) e in
      let same : h.names ≡ now = λ j. record { slots = slots j; queues = four.0 j; outputs = four.1 j; height = four.2 j; pages = four.3 j } in
      sym own.bare ∙ (names_are_of_one i depth k s m h.names now image once own.state other.state h.are named).0 same ∙ other.bare

  pub key_is : s ≡ m → key ≡ (now.slots, rest)
  key_is e =
      let same : h.names ≡ now = (names_are_of_one i depth k s m h.names now image once own.state other.state h.are named).1 (ap configuration e) in
      let rest_is = one_rest k.pairs once.pairs now key.1 rest (subst (λ (n : Names). IsRest k.pairs n key.1) same h.rest) is_rest in
      let slots : key.0 ≡ now.slots = h.slots ∙ ap (λ (n : Names). n.slots) same in
      λ j. (slots j, rest_is j)

-- 2. The key of the machine's configuration among those that were kept.

module _ (i : Image) (v : Configs) (c : code.Configs) (once : IsKeptOnce c.store) (h : Stands i v c) where
  abbrev pub key_now : ℕ × ℕ
  key_now = (c.names.slots, c.rest)

  -- a kept configuration whose key it is is the machine's
  pub kept_at : (at : ℕ) → slice_get c.kept at ≡ Some key_now → slice_get v.kept at ≡ Some v.machine
  kept_at at got =
      let found = zip_at (IsKeyOf i.slots c.depth c.store) v.kept c.kept h.each at key_now got in
      let own = all_got (IsConfigurationOf i) v.kept h.configs at found.0 found.1 in
      found.1 ∙ ap Some (key_tells i found.0 v.machine c.depth c.store c.names c.rest key_now h.image once own h.machine.config h.named.names h.named.rest found.2 refl)

  -- the machine's is not kept if its key is not among these
  pub not_kept : IsAbsent c.kept key_now → Contains v.kept v.machine → ⊥
  not_kept none there =
      let at = there.0 in
      let state = slice_index_or v.kept at v.machine in
      let key = slice_index_or c.kept at key_now in
      let long = zip_long (IsKeyOf i.slots c.depth c.store) v.kept c.kept h.each in
      let lt = there.1 in
      let named : IsKeyOf i.slots c.depth c.store state key = zip_from (IsKeyOf i.slots c.depth c.store) v.kept c.kept h.each at v.machine key_now lt in
      let own = each_at (IsConfigurationOf i) v.kept h.configs at v.machine lt in
      let is = key_is i state v.machine c.depth c.store c.names c.rest key h.image once own h.machine.config h.named.names h.named.rest named there.2 in
      none at (slice_get-get_or c.kept at key_now (omega (arith, lt, long)) ∙ ap Some is)

  -- it is kept as the last
  pub kept_more : (d : code.Configs) → d ≡ record c { kept = d.kept } → d.kept ≡ c.kept ++ key_now ∷ [] → length v.kept < 2 ^ 31
      → Stands i (record v { kept = v.kept ++ v.machine ∷ [] }) d
  kept_more d rest keys few =
      let long = length-append v.kept (v.machine ∷ []) in
      subst (Stands i (record v { kept = v.kept ++ v.machine ∷ [] })) (sym rest) (record {
        image = h.image;
        base = h.base;
        room = h.room;
        depth = h.depth;
        machine = record { core = h.machine.core; memory = h.machine.memory; config = h.machine.config; uses = h.machine.uses; mapped = h.machine.mapped };
        named = record { names = h.named.names; rest = h.named.rest };
        configs = each_push (IsConfigurationOf i) v.kept v.machine h.configs h.machine.config;
        each = subst (AllZip (IsKeyOf i.slots c.depth c.store) (v.kept ++ v.machine ∷ [])) (sym keys)
            (zip_more (IsKeyOf i.slots c.depth c.store) v.kept c.kept v.machine key_now h.each (record { names = c.names; are = h.named.names; slots = refl; rest = h.named.rest }));
        few = omega (arith, long, few);
      })

  -- the three answers
  pub keeps_known : (limit at : ℕ) → slice_get c.kept at ≡ Some (c.names.slots, c.rest) → (now : Configs) × Stands i now c × Keeps limit (Known at) v now
  keeps_known limit at got = (v, h, (kept_at at got, refl))

  pub keeps_full : (limit : ℕ) → IsAbsent c.kept (c.names.slots, c.rest) → limit ≤ length c.kept → (now : Configs) × Stands i now c × Keeps limit Full v now
  keeps_full limit none high =
      let long = zip_long (IsKeyOf i.slots c.depth c.store) v.kept c.kept h.each in
      (v, h, (not_kept none, omega (arith, long, high), refl))

  pub keeps_new : (limit : ℕ) (d : code.Configs) → IsAbsent c.kept (c.names.slots, c.rest) → length c.kept < limit → limit ≤ 2 ^ 31
      → d ≡ record c { kept = d.kept } → d.kept ≡ c.kept ++ (c.names.slots, c.rest) ∷ []
      → (now : Configs) × Stands i now d × Keeps limit New v now
  keeps_new limit d none low few rest keys =
      let long = zip_long (IsKeyOf i.slots c.depth c.store) v.kept c.kept h.each in
      (record v { kept = v.kept ++ v.machine ∷ [] }, kept_more d rest keys (omega (arith, long, low, few)), (not_kept none, omega (arith, long, low), refl))

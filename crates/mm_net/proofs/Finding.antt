-- The links and nodes that a step finds.
use Rattle.std.proofs.Common.{◌≡◌, ℕ, ◌<◌, length, get_or, slice_get, vec_len, Option, Some, None, IsSome, refl, sym}
use Rattle.std.proofs.{Common.subst, lemmas.Option.slice_get_read}
use Rattle.mm_mem.specs.declared.memory.Memory.{Ghosts}
use Rattle.mm_machine.specs.declared.machine.Machine.{Machine}
use Rattle.mm_net.{specs.{declared.{link.Link.Link, net.Net.Net}, Wires.Wired}, proofs.ListPlaces.{found, not_found}}

module _ {M : Type 0} {memory : Ghosts M} where
  pub wire_found : {R : Type 0} (net : Net M memory) (l : ℕ) (o : Option R) (r : R) (w : Wired) → (IsSome o → l < vec_len net.wires) → o ≡ Some r
      → w ≡ get_or net.wires.items l w → slice_get net.wires.items l ≡ Some w
  wire_found net l o r w inside is at = found net.wires.items (vec_len net.wires) l o r w net.wires.ok.0 inside is at

  pub no_wire : {R : Type 0} (net : Net M memory) (l : ℕ) (o : Option R) → (l < vec_len net.wires → IsSome o) → o ≡ None → slice_get net.wires.items l ≡ None
  no_wire net l o inside is = not_found net.wires.items (vec_len net.wires) l o net.wires.ok.0 inside is

  pub node_found : {R : Type 0} (net : Net M memory) (n : ℕ) (o : Option R) (r : R) (m : Machine M memory) → (IsSome o → n < vec_len net.nodes) → o ≡ Some r
      → m ≡ get_or net.nodes.items n m → slice_get net.nodes.items n ≡ Some m
  node_found net n o r m inside is at = found net.nodes.items (vec_len net.nodes) n o r m net.nodes.ok.0 inside is at

  pub no_node : {R : Type 0} (net : Net M memory) (n : ℕ) (o : Option R) → (n < vec_len net.nodes → IsSome o) → o ≡ None → slice_get net.nodes.items n ≡ None
  no_node net n o inside is = not_found net.nodes.items (vec_len net.nodes) n o net.nodes.ok.0 inside is

  -- the nodes at both ends of a link
  pub from_inside : (net : Net M memory) (l : ℕ) (w : Wired) (link : Link) → slice_get net.wires.items l ≡ Some w → link ≡ w.link → link.from < length net.nodes.items
  from_inside net l w link wire same = subst (λ (x : Link). x.from < length net.nodes.items) (sym same) (net.wired.from l w wire)

  pub to_inside : (net : Net M memory) (l : ℕ) (w : Wired) (link : Link) → slice_get net.wires.items l ≡ Some w → link ≡ w.link → link.to < length net.nodes.items
  to_inside net l w link wire same = subst (λ (x : Link). x.to < length net.nodes.items) (sym same) (net.wired.to l w wire)

  pub node_at : (net : Net M memory) (n : ℕ) (m : Machine M memory) → n < length net.nodes.items → m ≡ get_or net.nodes.items n m → slice_get net.nodes.items n ≡ Some m
  node_at net n m inside at = slice_get_read net.nodes.items (length net.nodes.items) n m refl inside at

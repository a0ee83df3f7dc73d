-- The text of a net: the report of each node, and the counts of each link.
use Rattle.std.specs.{Prelude.{ℕ, List, ◌++◌, length, codes, decimal, Option}, List.{flat_map, enumerate_from, zip}}
use Rattle.mm_model.specs.{declared.counts.Counts.Counts, Uses.Use, State.State, Image.Image, Lines.newline}
use Rattle.mm_model.specs.Report.{report}
use Rattle.mm_net.specs.{declared.{link.Link.Link, item.NetItem.NetItem}, Nets.{Carried, net_start, net_run, net_uses}}

-- the text of a node: its number, and the report of its state against its image
abbrev pub node_text : ℕ → Image → State → Option Counts → List ℕ
node_text n image state counts = codes "node " ++ decimal n ++ newline ++ report state image counts

-- the line of a link: how many integers it took, and how many of these it put
abbrev pub link_line : ℕ → Carried → List ℕ
link_line l carried = codes "link " ++ decimal l ++ codes " sent " ++ decimal (length carried.sent) ++ codes " arrived "
    ++ decimal (length carried.arrived) ++ newline

-- the texts of nodes, ascending, given the counts of the memory of each
abbrev pub nodes_text : List Image → List State → (counts : ℕ → Option Counts) → List ℕ
nodes_text images nodes counts =
    flat_map (λ x. node_text x.0 x.1.0 x.1.1 (counts x.0)) (enumerate_from 0 (zip images nodes))

-- the lines of the links, ascending
abbrev pub link_lines : List Carried → List ℕ
link_lines links = flat_map (λ x. link_line x.0 x.1) (enumerate_from 0 links)

-- the text of a net after a list of items
unfoldable pub net_text : (tells : List Use → Option Counts) → List Link → List Image → List NetItem → List ℕ
net_text tells links images items =
    let begun = net_start images links in
    let net = net_run links begun items in
    nodes_text images net.nodes (λ n. tells (net_uses links begun items n)) ++ link_lines net.links

use Rattle.mm_graph.proofs.Graphs.{exact_marks}
use Rattle.mm_graph.proofs.laws.graphs_decide.Goals as goal

pub returns : goal.returns
returns c i e node n t start marks rights graph reach fits right = exact_marks i e node n t start graph marks reach fits rights right

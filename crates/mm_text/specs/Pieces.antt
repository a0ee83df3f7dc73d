-- The texts of pieces.
use Rattle.std.specs.Prelude.{ℕ, List, [], ◌++◌, decimal, fold}
use Rattle.mm_text.specs.declared.piece.Piece.{Piece}
use Rattle.mm_text.specs.declared.piece.Piece.TheVariants.{Text, Decimal, HexByte, HexPage, HexAddress, HexWord}
use Rattle.mm_model.specs.Digits.{hex}

-- the text of a piece
abbrev pub piece_text : Piece → List ℕ
piece_text (Text text) = text.now
piece_text (Decimal number) = decimal number
piece_text (HexByte byte) = hex 2 byte
piece_text (HexPage page) = hex 11 page
piece_text (HexAddress address) = hex 14 address
piece_text (HexWord word) = hex 16 word

-- The texts of pieces, one after the other. For known pieces it computes to `piece_text p ++ piece_text q ++ ..`.
abbrev pub pieces_text : List Piece → List ℕ
pieces_text pieces = fold (λ text piece. text ++ piece_text piece) [] pieces

-- A record packed most significant bit first: a layout is the list of its fields' widths.
-- Assumes nothing.
use Rattle.std.specs.Prelude.{ℕ, ◌+◌, ◌*◌, ◌/◌, ◌%◌, ◌^◌, Bool, true, false, ◌&&◌, List, [], ◌∷◌, ◌≡◌, length, replicate, eqb, ltb, leb}

-- how many bits a layout has
abbrev pub total : List ℕ → ℕ
total [] = 0
total (w ∷ ws) = w + total ws

-- the number whose fields are xs
abbrev pub pack : List ℕ → List ℕ → ℕ
pack [] xs = 0
pack (w ∷ ws) [] = 0
pack (w ∷ ws) (x ∷ xs) = x * 2 ^ total ws + pack ws xs

-- the fields of the number v
abbrev pub unpack : List ℕ → ℕ → List ℕ
unpack [] v = []
unpack (w ∷ ws) v = v / 2 ^ total ws % 2 ^ w ∷ unpack ws v

-- as many fields as the layout has, each within its width
abbrev pub fitting : List ℕ → List ℕ → Bool
fitting [] [] = true
fitting [] (x ∷ xs) = false
fitting (w ∷ ws) [] = false
fitting (w ∷ ws) (x ∷ xs) = ltb x (2 ^ w) && fitting ws xs

-- n bytes are a layout too
abbrev pub bytes : ℕ → List ℕ
bytes n = replicate n 8

-- the number that a list of bytes spells, the first byte highest
abbrev pub num : List ℕ → ℕ
num s = pack (bytes (length s)) s

-- a list of bytes
abbrev pub Bytes : List ℕ → Type 0
Bytes s = fitting (bytes (length s)) s ≡ true

-- the n bytes of a record
abbrev pub packed : ℕ → List ℕ → List ℕ → List ℕ
packed n ws xs = unpack (bytes n) (pack ws xs)

-- a field within its width, which is at most a byte
abbrev pub field_fits : ℕ → ℕ → Bool
field_fits w x = leb w 8 && ltb x (2 ^ w)

-- `fitting`, and no field is wider than a byte
abbrev pub fields_fit : List ℕ → List ℕ → Bool
fields_fit [] [] = true
fields_fit [] (x ∷ xs) = false
fields_fit (w ∷ ws) [] = false
fields_fit (w ∷ ws) (x ∷ xs) = field_fits w x && fields_fit ws xs

-- the bytes that a layout fills
abbrev pub size_of : List ℕ → ℕ
size_of ws = total ws / 8

-- fields that can be stored in n bytes: they fit, they are whole bytes in all, and there is room
abbrev pub storable : List ℕ → List ℕ → ℕ → Bool
storable ws xs n = fields_fit ws xs && (eqb (total ws % 8) 0 && leb (size_of ws) n)

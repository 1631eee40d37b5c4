-- The bookstore of RFC 9535, section 1.5, with its queries.
use Rattle.std.specs.Prelude.{[], ◌∷◌, None, Some, pos, negsuc}
use Prim.Native.String.{String}
use Rattle.json_grammar.specs.Tree.{Tree}
use Rattle.json_model.specs.ExampleTrees.{example_object, example_array, example_member, example_string, example_number}
use Rattle.json_query.specs.ExampleQueries.{dot, brackets, dots, quoted, Finds, FindsPaths}
use Rattle.json_query.specs.Query.{wildcard_selector, index_selector, slice_selector}

-- a book without an ISBN number, and one with it
abbrev pub book : String → String → String → String → Tree
book category author title price =
    example_object (
    example_member "category" (example_string category)
    ∷ example_member "author" (example_string author)
    ∷ example_member "title" (example_string title)
    ∷ example_member "price" (example_number price)
    ∷ []
    )

abbrev pub book_with_isbn : String → String → String → String → String → Tree
book_with_isbn category author title isbn price =
    example_object (
    example_member "category" (example_string category)
    ∷ example_member "author" (example_string author)
    ∷ example_member "title" (example_string title)
    ∷ example_member "isbn" (example_string isbn)
    ∷ example_member "price" (example_number price)
    ∷ []
    )

abbrev pub moby_dick : Tree
moby_dick = book_with_isbn "fiction" "Herman Melville" "Moby Dick" "0-553-21311-3" "8.99"

abbrev pub bookstore : Tree
bookstore =
    example_object (
    example_member "store" (
    example_object (
    example_member "book" (
    example_array (
    book "reference" "Nigel Rees" "Sayings of the Century" "8.95"
    ∷ book "fiction" "Evelyn Waugh" "Sword of Honour" "12.99"
    ∷ moby_dick
    ∷ book_with_isbn "fiction" "J. R. R. Tolkien" "The Lord of the Rings" "0-395-19395-8" "22.99"
    ∷ []
    )
    )
    ∷ example_member "bicycle" (example_object (example_member "color" (example_string "red") ∷ example_member "price" (example_number "399") ∷ []))
    ∷ []
    )
    )
    ∷ []
    )

-- `$.store.book[*].author`, `$..author`, `$.store.*` and `$.store..price`
abbrev pub AuthorsAndPrices : Type 0
AuthorsAndPrices =
    Finds bookstore (dot "store" ∷ dot "book" ∷ brackets (wildcard_selector ∷ []) ∷ dot "author" ∷ [])
    (("$['store']['book'][0]['author']", example_string "Nigel Rees")
    ∷ ("$['store']['book'][1]['author']", example_string "Evelyn Waugh")
    ∷ ("$['store']['book'][2]['author']", example_string "Herman Melville")
    ∷ ("$['store']['book'][3]['author']", example_string "J. R. R. Tolkien")
    ∷ [])
    × FindsPaths bookstore (dots (quoted "author" ∷ []) ∷ []) ("$['store']['book'][0]['author']" ∷ "$['store']['book'][1]['author']" ∷ "$['store']['book'][2]['author']" ∷ "$['store']['book'][3]['author']" ∷ [])
    × FindsPaths bookstore (dot "store" ∷ brackets (wildcard_selector ∷ []) ∷ []) ("$['store']['book']" ∷ "$['store']['bicycle']" ∷ [])
    × Finds bookstore (dot "store" ∷ dots (quoted "price" ∷ []) ∷ [])
    (("$['store']['book'][0]['price']", example_number "8.95")
    ∷ ("$['store']['book'][1]['price']", example_number "12.99")
    ∷ ("$['store']['book'][2]['price']", example_number "8.99")
    ∷ ("$['store']['book'][3]['price']", example_number "22.99")
    ∷ ("$['store']['bicycle']['price']", example_number "399")
    ∷ [])

-- `$..book[2]`, `$..book[2].author`, `$..book[2].publisher`, `$..book[-1]`, `$..book[0,1]` and
-- `$..book[:2]`
abbrev pub BooksByIndex : Type 0
BooksByIndex =
    Finds bookstore (dots (quoted "book" ∷ []) ∷ brackets (index_selector (pos 2) ∷ []) ∷ []) (("$['store']['book'][2]", moby_dick) ∷ [])
    × Finds bookstore (dots (quoted "book" ∷ []) ∷ brackets (index_selector (pos 2) ∷ []) ∷ dot "author" ∷ []) (("$['store']['book'][2]['author']", example_string "Herman Melville") ∷ [])
    × Finds bookstore (dots (quoted "book" ∷ []) ∷ brackets (index_selector (pos 2) ∷ []) ∷ dot "publisher" ∷ []) []
    × FindsPaths bookstore (dots (quoted "book" ∷ []) ∷ brackets (index_selector (negsuc 0) ∷ []) ∷ []) ("$['store']['book'][3]" ∷ [])
    × FindsPaths bookstore (dots (quoted "book" ∷ []) ∷ brackets (index_selector (pos 0) ∷ index_selector (pos 1) ∷ []) ∷ []) ("$['store']['book'][0]" ∷ "$['store']['book'][1]" ∷ [])
    × FindsPaths bookstore (dots (quoted "book" ∷ []) ∷ brackets (slice_selector None (Some (pos 2)) (pos 1) ∷ []) ∷ []) ("$['store']['book'][0]" ∷ "$['store']['book'][1]" ∷ [])

-- `$..*`: children of the root, of the store, of the array of books, of each book and of the
-- bicycle
abbrev pub EverythingInTheStore : Type 0
EverythingInTheStore =
    FindsPaths bookstore (dots (wildcard_selector ∷ []) ∷ [])
    ("$['store']"
    ∷ "$['store']['book']"
    ∷ "$['store']['bicycle']"
    ∷ "$['store']['book'][0]"
    ∷ "$['store']['book'][1]"
    ∷ "$['store']['book'][2]"
    ∷ "$['store']['book'][3]"
    ∷ "$['store']['book'][0]['category']"
    ∷ "$['store']['book'][0]['author']"
    ∷ "$['store']['book'][0]['title']"
    ∷ "$['store']['book'][0]['price']"
    ∷ "$['store']['book'][1]['category']"
    ∷ "$['store']['book'][1]['author']"
    ∷ "$['store']['book'][1]['title']"
    ∷ "$['store']['book'][1]['price']"
    ∷ "$['store']['book'][2]['category']"
    ∷ "$['store']['book'][2]['author']"
    ∷ "$['store']['book'][2]['title']"
    ∷ "$['store']['book'][2]['isbn']"
    ∷ "$['store']['book'][2]['price']"
    ∷ "$['store']['book'][3]['category']"
    ∷ "$['store']['book'][3]['author']"
    ∷ "$['store']['book'][3]['title']"
    ∷ "$['store']['book'][3]['isbn']"
    ∷ "$['store']['book'][3]['price']"
    ∷ "$['store']['bicycle']['color']"
    ∷ "$['store']['bicycle']['price']"
    ∷ [])

-- The numbers that the language fixes. `src/limits.rt` has those that the code compares with.
use Rattle.std.specs.Prelude.{ℕ}

-- bytes of an input
abbrev pub max_input_bytes : ℕ
max_input_bytes = 1048576

-- bytes that a run reads at once
abbrev pub max_read_bytes : ℕ
max_read_bytes = 4096

-- bytes of a line, without its line feed
abbrev pub max_line_bytes : ℕ
max_line_bytes = 65536

-- bytes of a name
abbrev pub max_name_bytes : ℕ
max_name_bytes = 48

-- components of a repository
abbrev pub max_components : ℕ
max_components = 1000

-- component occurrences of a term that is listed
abbrev pub max_term_length : ℕ
max_term_length = 64

-- size that a listing may ask for
abbrev pub max_term_size : ℕ
max_term_size = 1024

-- terms that a listing may ask for
abbrev pub max_page_terms : ℕ
max_page_terms = 10000

-- nodes, depth and spread of a type
abbrev pub max_type_nodes : ℕ
max_type_nodes = 1024

abbrev pub max_type_depth : ℕ
max_type_depth = 64

abbrev pub max_type_spread : ℕ
max_type_spread = 16384

-- workers of a run
abbrev pub max_workers : ℕ
max_workers = 64

-- choices of a schema, which are as many as its instances
abbrev pub max_instances : ℕ
max_instances = 4096

-- nodes of an instance
abbrev pub max_instance_nodes : ℕ
max_instance_nodes = 4096

-- leading arrows of a path of a component
abbrev pub max_arity : ℕ
max_arity = 32

-- the sum, over a library's instances, of spread + 1
abbrev pub max_library_weight : ℕ
max_library_weight = 1000000

-- bytes of a term's text
abbrev pub max_text_bytes : ℕ
max_text_bytes = 65536

-- the greatest number of a hole in a template
abbrev pub max_hole : ℕ
max_hole = 16

-- minimal covers of the first paths of a goal by the arrows of a component with one number of arguments
abbrev pub max_covers : ℕ
max_covers = 1024

-- cost of a component
abbrev pub max_cost : ℕ
max_cost = 255

-- states of a filter
abbrev pub max_states : ℕ
max_states = 16

-- size of a term that is told as a number
abbrev pub max_finite_size : ℕ
max_finite_size = 1000000000

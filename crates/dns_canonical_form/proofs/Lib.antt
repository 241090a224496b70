pub mod OctetsForms

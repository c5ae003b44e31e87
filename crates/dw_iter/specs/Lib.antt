pub mod LeafLists
pub mod Made
pub mod Tops
pub mod LeafParts

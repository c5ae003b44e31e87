pub mod TypeName
pub mod DocKeys
pub mod KeyOrder
pub mod KeyCode
pub mod KeyFaults
pub mod KeyLaws
